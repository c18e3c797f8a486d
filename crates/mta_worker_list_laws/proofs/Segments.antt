-- The list of a session has each step of its generation that concerns pieces.
use Rattle.std.proofs.Common.{◌≡◌, ◌<◌, ◌≤◌, ℕ, ◌+◌, ◌-◌, Bool, Option, None, Some, List, [], ◌∷◌, ◌++◌}
use Rattle.std.proofs.Common.{inl, inr, refl, sym, ap, subst, ◌∙◌, arith, slice_get}
use Rattle.std.proofs.lemmas.Bool.{cases_lt}
use Rattle.mta_transfer_rules.specs.Lanes.{LanesAllow, On, Seen, SeenStep}
use Rattle.mta_lane_match_laws.specs.Generations.{BeginsAt}
use Rattle.mta_lane_match_laws.proofs.Generations.{generations_begin_once}
use Rattle.mta_transfer_laws.specs.Sessions.{Made}
use Rattle.mta_session_list_laws.specs.Laws.{IsIn}
use Rattle.mta_shared.specs.Counts.{times}
use Rattle.mta_shared.proofs.Sums.{times-append}
use Rattle.mta_worker_list_laws.specs.Segments.{AreAll, AreSegments, Begins, BeginsIn, IsListedIn, IsOne, IsOwnStep}
use Rattle.mta_worker_list_laws.specs.Segments.{IsSegment, ListsOwnSteps, OnLane, owned, Segment}

-- ---- which one made an entry

pub has_in : (ss : List Segment) (s : Segment) (k : ℕ) → IsOne s ss → 0 < times k s.own → 0 < times k (owned ss)
has_in [] s k i l = absurd i
has_in (x ∷ xs) s k i l =
    let sum : times k (x.own ++ owned xs) ≡ times k x.own + times k (owned xs) = times-append k x.own (owned xs) in
    elim i [
      | inl e ↦ (let here : 0 < times k x.own = subst (λ (z : Segment). 0 < times k z.own) e l in omega
          (arith, sum, here))
      | inr more ↦ (let there : 0 < times k (owned xs) = has_in xs s k more l in omega (arith, sum, there))
    ]

-- a segment in which the entry was made
pub record Maker (ss : List Segment) (k : ℕ) : Type 0 where
  pub segment : Segment
  pub one : IsOne segment ss
  pub has : 0 < times k segment.own

pub maker : (ss : List Segment) (k : ℕ) → 0 < times k (owned ss) → Maker ss k
maker [] k l = absurd (omega (arith, l))
maker (x ∷ xs) k l =
    let sum : times k (x.own ++ owned xs) ≡ times k x.own + times k (owned xs) = times-append k x.own (owned xs) in
    elim (cases_lt 0 (times k x.own)) [
      | inl here ↦ record { segment = x; one = inl refl; has = here }
      | inr none ↦ (
          let there = maker xs k (omega (arith, l, sum, none)) in
          record { segment = there.segment; one = inr there.one; has = there.has })
    ]

-- and there is one alone
one_alone : (ss : List Segment) (s t : Segment) (k : ℕ) → times k (owned ss) ≤ 1 → IsOne s ss → IsOne t ss
    → 0 < times k s.own → 0 < times k t.own → s ≡ t
one_alone [] s t k le i j a b = absurd i
one_alone (x ∷ xs) s t k le i j a b =
    let sum : times k (x.own ++ owned xs) ≡ times k x.own + times k (owned xs) = times-append k x.own (owned xs) in
    elim i [
      | inl e ↦ elim j [
        | inl f ↦ e ∙ sym f
        | inr more ↦ absurd (
            let here : 0 < times k x.own = subst (λ (z : Segment). 0 < times k z.own) e a in
            let there : 0 < times k (owned xs) = has_in xs t k more b in omega (arith, le, sum, here, there))
      ]
      | inr rest ↦ elim j [
        | inl f ↦ absurd (
            let here : 0 < times k x.own = subst (λ (z : Segment). 0 < times k z.own) f b in
            let there : 0 < times k (owned xs) = has_in xs s k rest a in omega (arith, le, sum, here, there))
        | inr more ↦ one_alone xs s t k (omega (arith, le, sum)) rest more a b
      ]
    ]

pub is_segment : (history : List Seen) (n : ℕ) (ss : List Segment) (s : Segment) → AreSegments history n ss → IsOne s ss
    → IsSegment history n s
is_segment history n [] s are i = absurd i
is_segment history n (x ∷ xs) s are i =
    elim i [
      | inl e ↦ subst (λ (z : Segment). IsSegment history n z) (sym e) are.0
      | inr more ↦ is_segment history n xs s are.1 more
    ]

-- ---- the law

same_list : (l m : OnLane) → Some l ≡ Some m → l ≡ m
same_list l m e = cc

module _ (spells : List ℕ → Bool) (history : List Seen) (before low : ℕ) (ss : List Segment)
    (allow : LanesAllow spells history) (are : AreAll history before low ss) where
  -- it was made for the session whose list this is
  by_list : (s t : Segment) (l : OnLane) (o : Option OnLane) (k : ℕ) (step : SeenStep) → IsOne s ss → IsOne t ss
      → s.list ≡ Some l → t.list ≡ o → BeginsIn history before s.own l → Begins history before t.own o
      → IsListedIn o (before + k) l.lane step l.generation → IsIn (Made (before + k) l.lane step) l.events
  by_list s t l None k step i j e f begun started listed = absurd listed
  by_list s t l (Some m) k step i j e f begun started listed =
      let theirs : BeginsAt history m.at l.lane l.generation =
      subst (λ (n : ℕ). BeginsAt history m.at n l.generation) (sym listed.lane_is)
      (subst (λ (g : ℕ). BeginsAt history m.at m.lane g) (sym listed.generation_is) started.begins) in
      let one : l.at ≡ m.at =
      generations_begin_once spells history l.at m.at l.lane l.generation allow begun.begins theirs in
      let shared : 0 < times (l.at - before) t.own =
      subst (λ (n : ℕ). 0 < times (n - before) t.own) (sym one) started.owned in
      let same : s ≡ t = one_alone ss s t (l.at - before) (are.once (l.at - before)) i j begun.owned shared in
      let list : l ≡ m = same_list l m (sym e ∙ ap (λ (z : Segment). z.list) same ∙ f) in
      subst (λ (z : OnLane). IsIn (Made (before + k) l.lane step) z.events) (sym list) listed.listed

  pub owns : (s : Segment) (l : OnLane) → IsOne s ss → s.list ≡ Some l → before + low ≤ l.at → (q : ℕ)
      (step : SeenStep) → l.at < q → slice_get history q ≡ Some (On l.lane step) → IsOwnStep l.generation step
      → IsIn (Made q l.lane step) l.events
  owns s l i e le q step later get piece =
      let place : q ≡ before + (q - before) = omega (arith, le, later) in
      let there : slice_get history (before + (q - before)) ≡ Some (On l.lane step) =
      subst (λ (n : ℕ). slice_get history n ≡ Some (On l.lane step)) place get in
      let made : Maker ss (q - before) =
      maker ss (q - before) (are.all (q - before) l.lane l.generation step (omega (arith, le, later)) there piece) in
      let theirs = is_segment history before ss made.segment are.segments made.one in
      let begun : BeginsIn history before s.own l =
      subst (λ (o : Option OnLane). Begins history before s.own o) e
      (is_segment history before ss s are.segments i).begins in
      subst (λ (n : ℕ). IsIn (Made n l.lane step) l.events) (sym place)
      (by_list s made.segment l made.segment.list (q - before) step i made.one e refl begun theirs.begins
      (theirs.lists (q - before) l.lane l.generation step made.has there piece))

pub lists_own_steps : ListsOwnSteps
lists_own_steps spells history before low ss s l allow are i e le q step later get piece =
    owns spells history before low ss allow are s l i e le q step later get piece
