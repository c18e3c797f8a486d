-- Where a step is possible none of the refusals for a lane stands.
use Rattle.std.proofs.Common.{◌≡◌, ℕ, Bool, List, Option, None, Some, refl, sym, ap, subst, ◌∙◌, arith}
use Rattle.mta_records.specs.Reference.{Identifier}
use Rattle.mta_records.specs.declared.lane.LaneRole.{LaneRole}
use Rattle.mta_records.specs.declared.step.Step.{Step}
use Rattle.mta_records.specs.declared.fault.StepFault.{StepFault}
use Rattle.mta_records.specs.declared.fault.StepFault.TheVariants as Faults
use Rattle.mta_histories.specs.Lanes.{Lane, State, lane_at}
use Rattle.mta_histories.specs.Classes.{LaneStep, agree, bind, start, confirm, to_end, settle, abandon, secure}
use Rattle.mta_histories.specs.Classes.{complete}
use Rattle.mta_histories.specs.Classes.{drop_pieces, close, Class, opens, on_lane, class_of}
use Rattle.mta_histories.specs.History.{StepNeeds, LaneNeeds, IsOfGeneration, IsPossible, when}
use Rattle.mta_spool.specs.Refusals.{IsFenced, LaneExpects, IsUnexpected, MayOpen, IsOfLane, IsRefused}
use Rattle.mta_spool.specs.Stands.{IsOfNoLane}

one-lane : (o : Option Lane) (a b : Lane) → o ≡ Some a → o ≡ Some b → a ≡ b
one-lane o a b e f = let both : ◌≡◌ {A = Option Lane} (Some a) (Some b) = sym e ∙ f in cc

same-generation : (g h : ℕ) → ◌≡◌ {A = Option ℕ} (Some g) (Some h) → g ≡ h
same-generation g h e = cc

not-fenced : (lane : Lane) (g : Option ℕ) (step : LaneStep) → IsOfGeneration lane g step → IsFenced lane g step → ⊥
not-fenced lane None step of fenced = fenced
not-fenced lane (Some g) (agree checkpoint window) of fenced =
    omega (arith, fenced, same-generation g lane.generation of)
not-fenced lane (Some g) bind of fenced = fenced
not-fenced lane (Some g) (start k i rs) of fenced = omega (arith, fenced, same-generation g lane.generation of)
not-fenced lane (Some g) (confirm k n) of fenced = omega (arith, fenced, same-generation g lane.generation of)
not-fenced lane (Some g) (to_end k) of fenced = omega (arith, fenced, same-generation g lane.generation of)
not-fenced lane (Some g) (settle outcome k) of fenced = omega (arith, fenced, same-generation g lane.generation of)
not-fenced lane (Some g) (abandon k) of fenced = fenced
not-fenced lane (Some g) (secure k n piece) of fenced = omega (arith, fenced, same-generation g lane.generation of)
not-fenced lane (Some g) (complete k n piece) of fenced = omega (arith, fenced, same-generation g lane.generation of)
not-fenced lane (Some g) (drop_pieces k) of fenced = omega (arith, fenced, same-generation g lane.generation of)
not-fenced lane (Some g) close of fenced = omega (arith, fenced, same-generation g lane.generation of)

expects : (s : State) (lane : Lane) (step : LaneStep) (moment : ℕ) → LaneNeeds s lane step moment
    → LaneExpects s lane step moment
expects s lane (agree checkpoint window) moment needs = needs
expects s lane bind moment needs = needs
expects s lane (start k i rs) moment needs = needs
expects s lane (confirm k n) moment needs = needs
expects s lane (to_end k) moment needs = needs
expects s lane (settle outcome k) moment needs = needs
expects s lane (abandon k) moment needs = needs
expects s lane (secure k n piece) moment needs = record {
  agreed = needs.agreed;
  taken = needs.taken;
  some_octets = needs.some_octets;
  short = needs.short;
}
expects s lane (complete k n piece) moment needs = record {
  agreed = needs.0.agreed;
  taken = needs.0.taken;
  some_octets = needs.0.some_octets;
  short = needs.0.short;
}
expects s lane (drop_pieces k) moment needs = needs
expects s lane close moment needs = needs

on-lane : (s : State) (n : ℕ) (g : Option ℕ) (step : LaneStep) (moment : ℕ) (f : StepFault)
    → StepNeeds s (on_lane n g step) moment → IsRefused s (on_lane n g step) moment f → ⊥
on-lane s n g step moment (Faults.Fenced generation) needs is =
    let same = one-lane (lane_at n s.lanes.open_lanes) is.lane needs.lane is.lane_is needs.lane_is in
    not-fenced needs.lane g step needs.current (subst (λ (l : Lane). IsFenced l g step) same is.fenced)
on-lane s n g step moment (Faults.NoLane m) needs is =
    let both : ◌≡◌ {A = Option Lane} None (Some needs.lane) = sym is.1 ∙ needs.lane_is in cc
on-lane s n g step moment Faults.Unexpected needs is =
    let same = one-lane (lane_at n s.lanes.open_lanes) needs.lane is.lane needs.lane_is is.lane_is in
    is.not_now (subst (λ (l : Lane). IsOfGeneration l g step) same needs.current)
    (subst (λ (l : Lane). LaneExpects s l step moment) same (expects s needs.lane step moment needs.needs))
on-lane s n g step moment any5 needs is = is

pub allowed : (s : State) (c : Class) (moment : ℕ) (f : StepFault) → StepNeeds s c moment → IsRefused s c moment f → ⊥
allowed s (opens role peer name twa size window) moment (Faults.BusyLanes count) needs is =
    omega (arith, needs.room, is.1, is.2)
allowed s (opens role peer name twa size window) moment Faults.Unexpected needs is = is (record {
  named = needs.named;
  new = needs.new;
  checkpoint_fits = needs.checkpoint_fits;
  window_fits = needs.window_fits;
})
allowed s (opens role peer name twa size window) moment any3 needs is = is
allowed s (on_lane n g step) moment f needs is = on-lane s n g step moment f needs is
allowed s any1 moment f needs is = is

pub not_refused : (s : State) (step : Step) (f : StepFault) → IsPossible s step
    → IsRefused s (class_of step) (when s step) f → ⊥
not_refused s step f possible is = allowed s (class_of step) (when s step) f possible.allowed is

-- ---- a fault that is none of a lane's

pub no_lane : (fault : Option StepFault) → ((f : StepFault) → fault ≡ Some f → IsOfLane f → ⊥) → IsOfNoLane fault
no_lane None none = tt
no_lane (Some (Faults.Full size need)) none = tt
no_lane (Some Faults.Disk) none = tt
no_lane (Some Faults.Ended) none = tt
no_lane (Some (Faults.Fenced generation)) none = none (Faults.Fenced generation) refl tt
no_lane (Some (Faults.NoLane lane)) none = none (Faults.NoLane lane) refl tt
no_lane (Some (Faults.BusyLanes count)) none = none (Faults.BusyLanes count) refl tt
no_lane (Some Faults.Unexpected) none = none Faults.Unexpected refl tt
no_lane (Some (Faults.Spent last)) none = tt
no_lane (Some Faults.Memory) none = tt

-- ---- one refusal for a lane stands at most

-- it is a refusal of the steps of lanes
pub refusal_of_lane : (s : State) (c : Class) (moment : ℕ) (f : StepFault) → IsRefused s c moment f → IsOfLane f
refusal_of_lane s (opens role peer name twa size window) moment (Faults.Fenced generation) is = tt
refusal_of_lane s (opens role peer name twa size window) moment (Faults.NoLane lane) is = tt
refusal_of_lane s (opens role peer name twa size window) moment (Faults.BusyLanes count) is = tt
refusal_of_lane s (opens role peer name twa size window) moment Faults.Unexpected is = tt
refusal_of_lane s (opens role peer name twa size window) moment any3 is = absurd is
refusal_of_lane s (on_lane n g step) moment (Faults.Fenced generation) is = tt
refusal_of_lane s (on_lane n g step) moment (Faults.NoLane lane) is = tt
refusal_of_lane s (on_lane n g step) moment (Faults.BusyLanes count) is = tt
refusal_of_lane s (on_lane n g step) moment Faults.Unexpected is = tt
refusal_of_lane s (on_lane n g step) moment any3 is = absurd is
refusal_of_lane s any1 moment f is = absurd is

module _ (s : State) (n : ℕ) (g : Option ℕ) (step : LaneStep) (moment : ℕ) where
  no-lane-alone : lane_at n s.lanes.open_lanes ≡ None → (h : StepFault)
      → IsRefused s (on_lane n g step) moment h → h ≡ Faults.NoLane n
  no-lane-alone none (Faults.Fenced generation) is =
      let both : ◌≡◌ {A = Option Lane} None (Some is.lane) = sym none ∙ is.lane_is in absurd cc
  no-lane-alone none (Faults.NoLane m) is = ap (λ (x : ℕ). Faults.NoLane x) is.0
  no-lane-alone none Faults.Unexpected is =
      let both : ◌≡◌ {A = Option Lane} None (Some is.lane) = sym none ∙ is.lane_is in absurd cc
  no-lane-alone none any1 is = absurd is

  fenced-alone : (lane : Lane) → lane_at n s.lanes.open_lanes ≡ Some lane → IsFenced lane g step → (h : StepFault)
      → IsRefused s (on_lane n g step) moment h → h ≡ Faults.Fenced lane.generation
  fenced-alone lane found fenced (Faults.Fenced generation) is =
      let same = one-lane (lane_at n s.lanes.open_lanes) is.lane lane is.lane_is found in
      ap (λ (x : ℕ). Faults.Fenced x) (is.generation_is ∙ ap (λ (l : Lane). l.generation) same)
  fenced-alone lane found fenced (Faults.NoLane m) is =
      let both : ◌≡◌ {A = Option Lane} None (Some lane) = sym is.1 ∙ found in absurd cc
  fenced-alone lane found fenced Faults.Unexpected is =
      let same = one-lane (lane_at n s.lanes.open_lanes) lane is.lane found is.lane_is in
      absurd (is.current (subst (λ (l : Lane). IsFenced l g step) same fenced))
  fenced-alone lane found fenced any3 is = absurd is

  unexpected-alone : IsUnexpected s n g step moment → (h : StepFault)
      → IsRefused s (on_lane n g step) moment h → h ≡ Faults.Unexpected
  unexpected-alone not_now (Faults.Fenced generation) is =
      let same = one-lane (lane_at n s.lanes.open_lanes) is.lane not_now.lane is.lane_is not_now.lane_is in
      absurd (not_now.current (subst (λ (l : Lane). IsFenced l g step) same is.fenced))
  unexpected-alone not_now (Faults.NoLane m) is =
      let both : ◌≡◌ {A = Option Lane} None (Some not_now.lane) = sym is.1 ∙ not_now.lane_is in absurd cc
  unexpected-alone not_now Faults.Unexpected is = refl
  unexpected-alone not_now any1 is = absurd is

  alone-on-lane : (f h : StepFault) → IsRefused s (on_lane n g step) moment f
      → IsRefused s (on_lane n g step) moment h → h ≡ f
  alone-on-lane (Faults.Fenced generation) h is other =
      fenced-alone is.lane is.lane_is is.fenced h other ∙ ap (λ (x : ℕ). Faults.Fenced x) (sym is.generation_is)
  alone-on-lane (Faults.NoLane m) h is other =
      no-lane-alone is.1 h other ∙ ap (λ (x : ℕ). Faults.NoLane x) (sym is.0)
  alone-on-lane Faults.Unexpected h is other = unexpected-alone is h other
  alone-on-lane any0 h is other = absurd is

module _ (s : State) (role : LaneRole) (peer : List ℕ) (name : Identifier) (twa : Bool) (size window moment : ℕ) where
  busy-alone : (count : ℕ) → IsRefused s (opens role peer name twa size window) moment (Faults.BusyLanes count)
      → (h : StepFault) → IsRefused s (opens role peer name twa size window) moment h → h ≡ Faults.BusyLanes count
  busy-alone count busy (Faults.BusyLanes m) is = ap (λ (x : ℕ). Faults.BusyLanes x) (is.1 ∙ sym busy.1)
  busy-alone count busy Faults.Unexpected is = absurd (is busy.0)
  busy-alone count busy any2 is = absurd is

  never-alone : (MayOpen s role peer name size window → ⊥) → (h : StepFault)
      → IsRefused s (opens role peer name twa size window) moment h → h ≡ Faults.Unexpected
  never-alone never (Faults.BusyLanes m) is = absurd (never is.0)
  never-alone never Faults.Unexpected is = refl
  never-alone never any1 is = absurd is

  alone-opening : (f h : StepFault) → IsRefused s (opens role peer name twa size window) moment f
      → IsRefused s (opens role peer name twa size window) moment h → h ≡ f
  alone-opening (Faults.BusyLanes count) h is other = busy-alone count is h other
  alone-opening Faults.Unexpected h is other = never-alone is h other
  alone-opening any0 h is other = absurd is

pub one_refusal : (s : State) (c : Class) (moment : ℕ) (f h : StepFault) → IsRefused s c moment f
    → IsRefused s c moment h → h ≡ f
one_refusal s (opens role peer name twa size window) moment f h is other =
    alone-opening s role peer name twa size window moment f h is other
one_refusal s (on_lane n g step) moment f h is other = alone-on-lane s n g step moment f h is other
one_refusal s any1 moment f h is other = absurd is
