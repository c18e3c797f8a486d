-- Each step of a lane that a worker made, but one that is made for no session, was made for a session.
use Rattle.std.proofs.Common.{◌≡◌, ◌⊎◌, ◌<◌, ℕ, ◌+◌, Bool, List, [], ◌∷◌, ◌++◌, length, Some, inl, inr, sym, subst}
use Rattle.std.proofs.Common.{◌∙◌, arith, slice_get}
use Rattle.std.proofs.lemmas.List.{length-append}
use Rattle.mta_links.specs.Links.{LinkView}
use Rattle.mta_transfer_rules.specs.Lanes.{On, SeenStep}
use Rattle.mta_records.specs.declared.step.Step.{Step}
use Rattle.mta_shared.specs.Counts.{times}
use Rattle.mta_worker_list_laws.specs.All.{AllParts, StepsHaveSessions}
use Rattle.mta_worker_list_laws.specs.Histories.{whole}
use Rattle.mta_worker_list_laws.specs.Parts.{AreForNone, AreSessions, IsForNone, IsSession}
use Rattle.mta_worker_list_laws.specs.Segments.{IsOne, Segment}
use Rattle.mta_worker_list_laws.proofs.All.{place_below}
use Rattle.mta_worker_list_laws.proofs.Annotating.{length_seen}
use Rattle.mta_worker_list_laws.proofs.Segments.{maker, Maker}

module _ {L : Type 0} (links : LinkView L) (spells : List ℕ → Bool) (first entries : List Step) where
  -- what one of the parts is
  pub part_is : (ss : List Segment) (s : Segment) → AreSessions links spells first entries ss → IsOne s ss
      → AreForNone (whole first entries) (length first) s ⊎ IsSession links spells first entries s
  part_is [] s are i = absurd i
  part_is (x ∷ xs) s are i =
      elim i [
        | inl e ↦ subst (λ (z : Segment). AreForNone (whole first entries) (length first) z
            ⊎ IsSession links spells first entries z) (sym e) are.0
        | inr more ↦ part_is xs s are.1 more
      ]

  step_made : (low : ℕ) (all : AllParts links spells first entries low) (k lane : ℕ) (step : SeenStep)
      (made : Maker all.parts k) → slice_get (whole first entries) (length first + k) ≡ Some (On lane step)
      → (IsForNone (On lane step) → ⊥)
      → AreForNone (whole first entries) (length first) made.segment
      ⊎ IsSession links spells first entries made.segment
      → (s : Segment) × IsOne s all.parts × IsSession links spells first entries s × (0 < times k s.own)
  step_made low all k lane step made get other (inl none) =
      absurd (other (none.entries k (On lane step) made.has get))
  step_made low all k lane step made get other (inr session) = (made.segment, made.one, session, made.has)

pub steps_have_sessions : {L : Type 0} (links : LinkView L) → StepsHaveSessions links
steps_have_sessions links spells first entries low all k lane step le get other =
    let long : length (whole first entries) ≡ length first + length entries =
    length_seen (first ++ entries) ∙ length-append first entries in
    let below : length first + k < length (whole first entries) =
    place_below (whole first entries) (length first + k) (On lane step) get in
    let made : Maker all.parts k = maker all.parts k (all.each k le (omega (arith, long, below))) in
    step_made links spells first entries low all k lane step made get other
    (part_is links spells first entries all.parts made.segment all.sessions made.one)
