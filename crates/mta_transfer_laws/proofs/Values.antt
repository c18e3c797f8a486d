-- The agreed values of a lane stay.
use Rattle.std.proofs.Common.{◌≡◌, ℕ, Bool, true, false, List, [], ◌∷◌, ◌++◌, refl, sym, ◌∙◌, ap, subst}
use Rattle.mta_transfer_rules.specs.Lanes.{Halves, SeenStep, Seen, Phase, Unopened, Open, Closed, Allows, AreAllowed}
use Rattle.mta_transfer_rules.specs.Lanes.{halves_after, of_lane_all, halves_run, lane_at_first, lane_in}
use Rattle.mta_transfer_laws.specs.History.{AgreedValuesStay, IsOfLanes, lane_upto}
use Rattle.mta_transfer_rules.specs.Lanes as h
use Rattle.mta_transfer_laws.proofs.Histories.{split, of-append, upto-append, first-only}

-- a lane that was never opened has agreed to nothing
abbrev Fits : Halves → Type 0
Fits l = l.phase ≡ Unopened → l.agreed ≡ false

open-not : (l : Halves) → l.phase ≡ Open → Fits l
open-not l o u = absurd (let c : Open ≡ Unopened = sym o ∙ u in cc)

module _ (spells : List ℕ → Bool) where
  fits-step : (l : Halves) (step : SeenStep) → Allows spells l step → Fits (halves_after l step)
  fits-step l (h.LaneOpen a s w) p = λ u. absurd (let c : Open ≡ Unopened = u in cc)
  fits-step l (h.LaneAgree s w) p = λ u. absurd (let c : Open ≡ Unopened = sym p.0 ∙ u in cc)
  fits-step l (h.Bind g) p = open-not l p.0
  fits-step l (h.Abandon k) p = open-not l p.0
  fits-step l (h.CloseLane g) p = λ u. absurd (let c : Closed ≡ Unopened = u in cc)
  fits-step l any1 p = open-not l p.0.0

  fits-all : (steps : List SeenStep) (l : Halves) → Fits l → AreAllowed spells l steps → Fits (halves_run l steps)
  fits-all [] l f p = f
  fits-all (x ∷ xs) l f p = fits-all xs (halves_after l x) (fits-step l x p.0) p.1

  abbrev Stays : Halves → Halves → Type 0
  Stays l m = (m.agreed ≡ true) × (m.size ≡ l.size) × (m.window ≡ l.window)

  stays-step : (l : Halves) (step : SeenStep) → Fits l → l.agreed ≡ true → Allows spells l step
      → Stays l (halves_after l step)
  stays-step l (h.LaneOpen a s w) f e p = absurd (let c : true ≡ false = sym e ∙ f p in cc)
  stays-step l (h.LaneAgree s w) f e p = absurd (let c : true ≡ false = sym e ∙ p.1 in cc)
  stays-step l _ f e p = (e, refl, refl)

  stays-all : (steps : List SeenStep) (l : Halves) → Fits l → l.agreed ≡ true → AreAllowed spells l steps
      → Stays l (halves_run l steps)
  stays-all [] l f e p = (e, refl, refl)
  stays-all (x ∷ xs) l f e p =
      let a : Stays l (halves_after l x) = stays-step l x f e p.0 in
      let b : Stays (halves_after l x) (halves_run (halves_after l x) xs) =
      stays-all xs (halves_after l x) (fits-step l x p.0) a.0 p.1 in
      (b.0, b.1 ∙ a.1, b.2 ∙ a.2)

front-possible : (spells : List ℕ → Bool) (l : Halves) (a b : List SeenStep) → AreAllowed spells l (a ++ b)
    → AreAllowed spells l a
front-possible spells l [] b g = tt
front-possible spells l (x ∷ xs) b g = (g.0, front-possible spells (halves_after l x) xs b g.1)

-- where the front is not empty
front-not-first : (spells : List ℕ → Bool) (history more : List Seen) (lane : ℕ) → IsOfLanes spells (history ++ more)
    → lane_upto (history ++ more) lane history ≡ lane_in lane history → (lane_in lane history).agreed ≡ true
    → ((lane_in lane (history ++ more)).agreed ≡ true)
    × ((lane_in lane (history ++ more)).size ≡ (lane_in lane history).size)
    × ((lane_in lane (history ++ more)).window ≡ (lane_in lane history).window)
front-not-first spells history more lane possible same agreed =
    let first : Halves = lane_at_first lane (history ++ more) in
    let there : Halves = lane_upto (history ++ more) lane history in
    let p : AreAllowed spells first (of_lane_all lane history ++ of_lane_all lane more) =
    subst (λ (z : List SeenStep). AreAllowed spells first z) (of-append lane history more) (possible.allowed lane) in
    let new : Fits first = λ u. ap (λ (l : Halves). l.agreed) (possible.begun lane u) in
    let f : Fits there =
    fits-all spells (of_lane_all lane history) first new
    (front-possible spells first (of_lane_all lane history) (of_lane_all lane more) p) in
    let s : Stays spells there (halves_run there (of_lane_all lane more)) =
    stays-all spells (of_lane_all lane more) there f (ap (λ (l : Halves). l.agreed) same ∙ agreed)
    (split spells first (of_lane_all lane history) (of_lane_all lane more) p) in
    let e : lane_in lane (history ++ more) ≡ halves_run there (of_lane_all lane more) =
    upto-append (history ++ more) lane history more in (
      ap (λ (z : Halves). z.agreed) e ∙ s.0,
      ap (λ (z : Halves). z.size) e ∙ s.1 ∙ ap (λ (z : Halves). z.size) same,
      ap (λ (z : Halves). z.window) e ∙ s.2 ∙ ap (λ (z : Halves). z.window) same,
    )

pub stay : AgreedValuesStay
stay spells [] more lane possible agreed = absurd (let c : false ≡ true = agreed in cc)
stay spells (x ∷ xs) more lane possible agreed =
    front-not-first spells (x ∷ xs) more lane possible
    (ap (λ (l : Halves). halves_run l (of_lane_all lane (x ∷ xs))) (first-only lane x (xs ++ more) xs)) agreed
