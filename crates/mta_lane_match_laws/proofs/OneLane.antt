-- What a step does to one lane of the list, whichever it is on.
use Rattle.std.proofs.Common.{◌≡◌, ℕ, ◌+◌, ◌≤◌, Bool, true, false, List, [], ◌∷◌, Option, Some, None, refl, sym}
use Rattle.std.proofs.Common.{ap, subst, ◌∙◌, arith, eqb}
use Rattle.std.proofs.lemmas.Bool.{eqb-true, ne_eqb}
use Rattle.mta_records.specs.declared.step.Step.{Step}
use Rattle.mta_histories.specs.Lanes.{Lane, lane_at, put_lane, without_lane}
use Rattle.mta_histories.specs.Lanes as spool
use Rattle.mta_histories.specs.Classes.{LaneStep, agree, bind, start, confirm, to_end, settle, abandon, secure}
use Rattle.mta_histories.specs.Classes.{complete, drop_pieces, close, Class, begins, opens}
use Rattle.mta_histories.specs.Classes.{on_lane, class_of}
use Rattle.mta_histories.specs.History.{new_lane, IsOfGeneration, LaneNeeds, lane_after, StepNeeds, lanes_after}
use Rattle.mta_histories.specs.History.{on_lane_after, IsPossible, ArePossible, after_step, after_from, when}
use Rattle.mta_histories.specs.Kept.{AreNumbered, IsKept}
use Rattle.mta_histories.specs.Laws.{StepsKeep}
use Rattle.mta_histories.proofs.LaneLists.{number-at, number-above}
use Rattle.mta_histories.proofs.Shown.{put-found, put-other, without-other, without-none, more-other}
use Rattle.mta_lane_match_laws.specs.Matches.{WhereOpen}

-- what a step on the lane of this number makes of it
abbrev pub LeadsOn : (P : Lane → Type 0) → (number : ℕ) → spool.State → Class → (moment : ℕ) → Type 0
LeadsOn P m s (on_lane n g step) moment =
    (lane : Lane) → n ≡ m → IsOfGeneration lane g step → LaneNeeds s lane step moment → P lane
    → P (lane_after s lane step moment)
LeadsOn P m s c moment = Unit {0}

-- what a snapshot has of the lane of this number
abbrev pub BeginsWith : (P : Lane → Type 0) → (number : ℕ) → Class → Type 0
BeginsWith P m (begins t) = (m ≤ t.lane_count) × WhereOpen P (lane_at m t.lanes)
BeginsWith P m c = Unit {0}

not_found : (lanes : List Lane) (most : ℕ) (o : Option Lane) → AreNumbered 0 lanes most → lane_at 0 lanes ≡ o
    → o ≡ None
not_found lanes most None numbered e = refl
not_found lanes most (Some lane) numbered e =
    let here : 0 ≡ lane.number = number-at lanes 0 lane e in
    absurd (omega (arith, here, number-above 0 lanes most 0 lane numbered e))

-- Before a snapshot no lane was opened, and it has none of number 0.
pub begins_with : (P : Lane → Type 0) (m : ℕ) (s : spool.State) (c : Class) (moment : ℕ) → IsKept s
    → StepNeeds s c moment → m ≤ s.lanes.count → BeginsWith P m c
begins_with P m s (begins t) moment kept needs le =
    let below : m ≤ 0 = subst (λ (z : spool.State). m ≤ z.lanes.count) (kept.at_first needs.first) le in
    let none : m ≡ 0 = omega (arith, below) in
    let gone : lane_at 0 t.lanes ≡ None =
    not_found t.lanes t.lane_count (lane_at 0 t.lanes) needs.kept.numbered_lanes refl in
    (omega (arith, below), subst (WhereOpen P) (sym (ap (λ (z : ℕ). lane_at z t.lanes) none ∙ gone)) tt)
begins_with P m s any1 moment kept needs le = tt

module _ (P : Lane → Type 0) (m : ℕ) (s : spool.State) (n : ℕ) (lane : Lane) (moment : ℕ) where
  put_on : (xs : List Lane) (new : Lane) → new.number ≡ lane.number → lane_at n xs ≡ Some lane
      → (n ≡ m → P lane → P new) → (b : Bool) → eqb m n ≡ b
      → WhereOpen P (lane_at m xs) → WhereOpen P (lane_at m (put_lane new xs))
  put_on xs new kept at leads true test holds =
      let same : m ≡ n = eqb-true m n test in
      let here : n ≡ new.number = number-at xs n lane at ∙ sym kept in
      let was : lane_at m xs ≡ Some lane = subst (λ (v : ℕ). lane_at v xs ≡ Some lane) (sym same) at in
      let at_new : lane_at new.number xs ≡ Some lane = subst (λ (v : ℕ). lane_at v xs ≡ Some lane) here at in
      let found : lane_at m (put_lane new xs) ≡ Some new =
      subst (λ (v : ℕ). lane_at v (put_lane new xs) ≡ Some new) (sym (same ∙ here)) (put-found new lane xs at_new) in
      subst (WhereOpen P) (sym found) (leads (sym same) (subst (WhereOpen P) was holds))
  put_on xs new kept at leads false test holds =
      let here : n ≡ new.number = number-at xs n lane at ∙ sym kept in
      let apart : eqb m new.number ≡ false = subst (λ (v : ℕ). eqb m v ≡ false) here test in
      subst (WhereOpen P) (sym (put-other m new xs apart)) holds

  without_on : (xs : List Lane) (most : ℕ) → AreNumbered 0 xs most → lane_at n xs ≡ Some lane
      → (b : Bool) → eqb m n ≡ b → WhereOpen P (lane_at m xs)
      → WhereOpen P (lane_at m (without_lane lane.number xs))
  without_on xs most numbered at true test holds =
      let same : m ≡ lane.number = eqb-true m n test ∙ number-at xs n lane at in
      let gone : lane_at m (without_lane lane.number xs) ≡ None =
      subst (λ (v : ℕ). lane_at m (without_lane v xs) ≡ None) same (without-none m 0 xs most numbered) in
      subst (WhereOpen P) (sym gone) tt
  without_on xs most numbered at false test holds =
      let apart : eqb m lane.number ≡ false =
      subst (λ (v : ℕ). eqb m v ≡ false) (number-at xs n lane at) test in
      subst (WhereOpen P) (sym (without-other m lane.number xs apart)) holds

  on_put : (new : Lane) → new.number ≡ lane.number → lane_at n s.lanes.open_lanes ≡ Some lane
      → (n ≡ m → P lane → P new) → WhereOpen P (lane_at m s.lanes.open_lanes)
      → WhereOpen P (lane_at m (put_lane new s.lanes.open_lanes))
  on_put new kept at leads holds = put_on s.lanes.open_lanes new kept at leads (eqb m n) refl holds

  step_on : (step : LaneStep) → AreNumbered 0 s.lanes.open_lanes s.lanes.count
      → lane_at n s.lanes.open_lanes ≡ Some lane → (n ≡ m → P lane → P (lane_after s lane step moment))
      → WhereOpen P (lane_at m s.lanes.open_lanes)
      → WhereOpen P (lane_at m (on_lane_after s (Some lane) step moment))
  step_on (agree c w) numbered at leads holds = on_put (lane_after s lane (agree c w) moment) refl at leads holds
  step_on bind numbered at leads holds = on_put (lane_after s lane bind moment) refl at leads holds
  step_on (start k i rs) numbered at leads holds = on_put (lane_after s lane (start k i rs) moment) refl at leads holds
  step_on (confirm k c) numbered at leads holds = on_put (lane_after s lane (confirm k c) moment) refl at leads holds
  step_on (to_end k) numbered at leads holds = on_put (lane_after s lane (to_end k) moment) refl at leads holds
  step_on (settle how k) numbered at leads holds = on_put (lane_after s lane (settle how k) moment) refl at leads holds
  step_on (abandon k) numbered at leads holds = on_put (lane_after s lane (abandon k) moment) refl at leads holds
  step_on (secure k c piece) numbered at leads holds =
      on_put (lane_after s lane (secure k c piece) moment) refl at leads holds
  step_on (complete k c piece) numbered at leads holds =
      on_put (lane_after s lane (complete k c piece) moment) refl at leads holds
  step_on (drop_pieces k) numbered at leads holds =
      on_put (lane_after s lane (drop_pieces k) moment) refl at leads holds
  step_on close numbered at leads holds =
      without_on s.lanes.open_lanes s.lanes.count numbered at (eqb m n) refl holds

-- The lane was opened, and it is so where it is open.
abbrev pub Holds : (P : Lane → Type 0) → (number : ℕ) → spool.State → Type 0
Holds P m s = (m ≤ s.lanes.count) × WhereOpen P (lane_at m s.lanes.open_lanes)

class_keeps : (P : Lane → Type 0) (m : ℕ) (s : spool.State) (c : Class) (moment : ℕ)
    → AreNumbered 0 s.lanes.open_lanes s.lanes.count → StepNeeds s c moment → BeginsWith P m c
    → LeadsOn P m s c moment → m ≤ s.lanes.count → WhereOpen P (lane_at m s.lanes.open_lanes)
    → (m ≤ (lanes_after s c moment).count) × WhereOpen P (lane_at m (lanes_after s c moment).open_lanes)
class_keeps P m s (begins t) moment numbered needs begun leads le holds = begun
class_keeps P m s (opens role peer reference twa checkpoint window) moment numbered needs begun leads le holds =
    let new : Lane = new_lane (s.lanes.count + 1) role peer reference twa checkpoint window in
    let apart : eqb m (s.lanes.count + 1) ≡ false = ne_eqb m (s.lanes.count + 1) (λ e. omega (arith, le, e)) in
    (omega (arith, le), subst (WhereOpen P) (sym (more-other m new s.lanes.open_lanes apart)) holds)
class_keeps P m s (on_lane n g step) moment numbered needs begun leads le holds = (
  le,
  subst (λ (x : Option Lane). WhereOpen P (lane_at m (on_lane_after s x step moment))) (sym needs.lane_is)
      (step_on P m s n needs.lane moment step numbered needs.lane_is
      (λ same. leads needs.lane same needs.current needs.needs) holds),
)
class_keeps P m s any3 moment numbered needs begun leads le holds = (le, holds)

pub step_keeps : (P : Lane → Type 0) (m : ℕ) (s : spool.State) (step : Step)
    → AreNumbered 0 s.lanes.open_lanes s.lanes.count → IsPossible s step
    → BeginsWith P m (class_of step) → LeadsOn P m s (class_of step) (when s step) → Holds P m s
    → Holds P m (after_step s step)
step_keeps P m s step numbered possible begun leads holds =
    class_keeps P m s (class_of step) (when s step) numbered possible.allowed begun leads holds.0 holds.1

-- and so of many steps, where each of those that come leads on
pub steps_hold : StepsKeep → (P : Lane → Type 0) (m : ℕ) (s : spool.State) (steps : List Step) → IsKept s
    → ArePossible s steps → ((t : spool.State) (c : Class) (moment : ℕ) → LeadsOn P m t c moment)
    → Holds P m s → Holds P m (after_from s steps)
steps_hold keep P m s [] kept possible leads holds = holds
steps_hold keep P m s (step ∷ steps) kept possible leads holds =
    steps_hold keep P m (after_step s step) steps (keep s step kept possible.0) possible.1 leads
    (step_keeps P m s step kept.numbered_lanes possible.0
    (begins_with P m s (class_of step) (when s step) kept possible.0.allowed holds.0)
    (leads s (class_of step) (when s step)) holds)
