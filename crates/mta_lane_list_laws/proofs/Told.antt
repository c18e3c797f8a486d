-- Each generation of a lane began with a session that has a list, where each was told of its LaneOpen or Bind step.
use Rattle.std.proofs.Common.{◌≡◌, ◌<◌, ℕ, ◌+◌, ◌-◌, Bool, Option, None, Some, List, length, refl}
use Rattle.std.proofs.Common.{sym, ap, subst, ◌∙◌, arith}
use Rattle.mta_links.specs.Links.{LinkView}
use Rattle.mta_transfer_rules.specs.Lanes as h
use Rattle.mta_transfer_rules.specs.Lanes.{On, Seen, SeenStep}
use Rattle.mta_records.specs.declared.step.Step.{Step}
use Rattle.mta_lane_match_laws.specs.Generations.{Begins as BeginsHere, BeginsAt}
use Rattle.mta_shared.specs.Counts.{times}
use Rattle.mta_worker_list_laws.specs.All.{AllParts}
use Rattle.mta_worker_list_laws.specs.Histories.{whole}
use Rattle.mta_worker_list_laws.specs.Parts.{IsForNone}
use Rattle.mta_worker_list_laws.specs.Segments.{IsBegunAt, IsOne, OnLane, Segment}
use Rattle.mta_worker_list_laws.proofs.Made.{steps_have_sessions}
use Rattle.mta_worker_list_laws.proofs.Segments.{is_segment}
use Rattle.mta_lane_list_laws.specs.Lanes.{AreTold, BeganAt, EachBegan, HaveLane}

-- such a step is made for a session
pub for_one : (lane g : ℕ) (x : Seen) → BeginsHere lane g x → IsForNone x → ⊥
for_one lane g (On m (h.LaneOpen agreed size window)) b none = none
for_one lane g (On m (h.Bind j)) b none = none
for_one lane g x b none = b

-- it is on a lane
record OnOne (x : Seen) : Type 0 where
  number : ℕ
  step : SeenStep
  is : x ≡ On number step

on_one : (lane g : ℕ) (x : Seen) → BeginsHere lane g x → OnOne x
on_one lane g (On m step) b = record { number = m; step = step; is = refl }
on_one lane g x b = absurd b

module _ {L : Type 0} (links : LinkView L) (spells : List ℕ → Bool) (first entries : List Step) (low : ℕ)
    (all : AllParts links spells first entries low) (lane : ℕ) (ss : List Segment)
    (have : HaveLane ss all.parts lane) (told : AreTold (whole first entries) (length first) lane all.parts) where
  abbrev history : List Seen
  history = whole first entries

  by_list : (p k g : ℕ) (s : Segment) → IsOne s all.parts → 0 < times k s.own
      → BeginsAt history (length first + k) lane g → length first + k ≡ p → (o : Option OnLane) → s.list ≡ o
      → IsBegunAt o (length first + k) lane
      → (r : Segment) × IsOne r ss × BeganAt r lane p
  by_list p k g s one hit b at None e once = absurd (told s k g one e hit b)
  by_list p k g s one hit b at (Some on) e once = (
    s,
    have s on one e (sym once.0),
    record { on = on; has = e; lane_is = sym once.0; at_is = sym once.1 ∙ at },
  )

  by_segment : (p k g : ℕ) (s : Segment) → IsOne s all.parts → 0 < times k s.own
      → BeginsAt history (length first + k) lane g → length first + k ≡ p
      → (r : Segment) × IsOne r ss × BeganAt r lane p
  by_segment p k g s one hit b at =
      by_list p k g s one hit b at s.list refl
      ((is_segment history (length first) all.parts s all.all.segments one).once k lane g hit b)

  pub each_began : EachBegan history (length first + low) lane ss
  each_began p g le b =
      let k : ℕ = p - length first in
      let at : length first + k ≡ p = omega (arith, le) in
      let there : BeginsAt history (length first + k) lane g =
      subst (λ (n : ℕ). BeginsAt history n lane g) (sym at) b in
      let on = on_one lane g there.0 there.2 in
      let made = steps_have_sessions links spells first entries low all k on.number on.step (omega (arith, le))
      (there.1 ∙ ap Some on.is)
      (subst (λ (x : Seen). IsForNone x → ⊥) on.is (for_one lane g there.0 there.2)) in
      by_segment p k g made.0 made.1 made.3 there at
