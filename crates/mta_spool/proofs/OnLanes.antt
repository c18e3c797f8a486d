-- Steps on an open lane: where they are possible, and why they are refused.
use Rattle.std.proofs.Common.{◌≡◌, ℕ, ◌+◌, ◌<◌, ◌≤◌, ◌^◌, Bool, true, false, cond, Option, None, Some, length, refl}
use Rattle.std.proofs.Common.{List, sym, ap, subst, arith}
use Rattle.std.specs.Prelude.{nat_lt}
use Rattle.std.proofs.lemmas.Bool.{ltb-true, ltb-false}
use Rattle.mta_records.specs.declared.step.Step.{Step}
use Rattle.mta_records.specs.declared.step.Step.TheVariants as steps
use Rattle.mta_records.specs.declared.fault.StepFault.{StepFault}
use Rattle.mta_records.specs.declared.fault.StepFault.TheVariants as Faults
use Rattle.mta_histories.specs.Lanes.{Lane, State, lane_at}
use Rattle.mta_histories.specs.Classes.{was_sent, was_refused, was_denied, was_dropped, LaneStep, agree, bind, start}
use Rattle.mta_histories.specs.Classes.{confirm, to_end, settle, abandon, secure, complete, drop_pieces, close, Class}
use Rattle.mta_histories.specs.Classes.{on_lane, class_of}
use Rattle.mta_histories.specs.History.{StepNeeds, LaneNeeds, MachineNeeds, IsOnLane, IsPossible, when}
use Rattle.mta_histories.specs.Numbers.{numbers_on, numbers_needed}
use Rattle.mta_histories.proofs.Needed.{numbers_suffice}
use Rattle.mta_replay.specs.Ready.{sets_rules}
use Rattle.mta_spool.specs.Refusals.{IsFenced, LaneExpects, IsRefused}
use Rattle.mta_edge.specs.Views.{DiskView}
use Rattle.mta_journal.specs.Shown.{Shown as JournalShown}
use Rattle.mta_spool.specs.Stands.{IsSpent, Makes}
use Rattle.mta_spool.specs.OnLanes.{IsNext, IsPlain, IsPlainOn, IsQuiet, IsQuietOn, refusal_on}

-- a step that its lane allows is possible where numbers are left
pub lane_possible : (s : State) (step : Step) (n : ℕ) (g : Option ℕ) (ls : LaneStep) → class_of step ≡ on_lane n g ls
    → StepNeeds s (class_of step) (when s step) → s.moment ≤ when s step
    → length s.machine.items + numbers_needed s (class_of step) < 2 ^ 32 → IsPossible s step
lane_possible s step n g ls class needs timely left = record {
  allowed = needs;
  as_machine = subst (λ (c : Class). MachineNeeds s c (when s step)) (sym class) tt;
  timely = timely;
  numbers = omega (arith, left, numbers_suffice s step);
}

machine-plain : (s : State) (n g : ℕ) (c : Class) (moment : ℕ) → IsPlainOn n g c → MachineNeeds s c moment
machine-plain s n g (on_lane m h ls) moment plain = tt
machine-plain s n g any3 moment plain = absurd plain

pub plain_possible : (s : State) (step : Step) (n g : ℕ) → IsPlainOn n g (class_of step)
    → StepNeeds s (class_of step) (when s step) → s.moment ≤ when s step
    → length s.machine.items + numbers_needed s (class_of step) < 2 ^ 32 → IsPossible s step
plain_possible s step n g plain needs timely left = record {
  allowed = needs;
  as_machine = machine-plain s n g (class_of step) (when s step) plain;
  timely = timely;
  numbers = omega (arith, left, numbers_suffice s step);
}

-- ---- quiet steps

plain-quiet : (ls : LaneStep) → IsQuiet ls → IsPlain ls
plain-quiet (agree checkpoint window) quiet = tt
plain-quiet bind quiet = absurd quiet
plain-quiet (start k i rs) quiet = tt
plain-quiet (confirm k n) quiet = tt
plain-quiet (to_end k) quiet = tt
plain-quiet (settle outcome k) quiet = tt
plain-quiet (abandon k) quiet = absurd quiet
plain-quiet (secure k n piece) quiet = absurd quiet
plain-quiet (complete k n piece) quiet = absurd quiet
plain-quiet (drop_pieces k) quiet = tt
plain-quiet close quiet = tt

pub quiet_is_plain : (n g : ℕ) (c : Class) → IsQuietOn n g c → IsPlainOn n g c
quiet_is_plain n g (on_lane m h ls) quiet = (quiet.0, quiet.1, plain-quiet ls quiet.2)
quiet_is_plain n g any2 quiet = absurd quiet

-- no rules are made anew for it
pub quiet_sets_none : (n g : ℕ) (c : Class) → IsQuietOn n g c → sets_rules c ≡ false
quiet_sets_none n g (on_lane m h ls) quiet = refl
quiet_sets_none n g any2 quiet = absurd quiet

none-open : (lane : Lane) (ls : LaneStep) → IsQuiet ls → 0 ≡ numbers_on (Some lane) ls
none-open lane (agree checkpoint window) quiet = refl
none-open lane bind quiet = refl
none-open lane (start k i rs) quiet = refl
none-open lane (confirm k n) quiet = refl
none-open lane (to_end k) quiet = refl
none-open lane (settle was_sent k) quiet = refl
none-open lane (settle (was_refused kind) k) quiet = absurd quiet
none-open lane (settle was_denied k) quiet = absurd quiet
none-open lane (settle was_dropped k) quiet = refl
none-open lane (abandon k) quiet = absurd quiet
none-open lane (secure k n piece) quiet = refl
none-open lane (complete k n piece) quiet = absurd quiet
none-open lane (drop_pieces k) quiet = refl
none-open lane close quiet = refl

none-on : (o : Option Lane) (ls : LaneStep) → IsQuiet ls → 0 ≡ numbers_on o ls
none-on None ls quiet = refl
none-on (Some lane) ls quiet = none-open lane ls quiet

pub quiet_needs_none : (s : State) (n g : ℕ) (c : Class) → IsQuietOn n g c → 0 ≡ numbers_needed s c
quiet_needs_none s n g (on_lane m h ls) quiet = none-on (lane_at m s.lanes.open_lanes) ls quiet.2
quiet_needs_none s n g any3 quiet = absurd quiet

-- ---- a plain step that is refused

module _ (s : State) (n g moment : ℕ) where
  expected : (lane : Lane) (step : LaneStep) → IsPlain step → LaneExpects s lane step moment
      → LaneNeeds s lane step moment
  expected lane (agree checkpoint window) plain expects = expects
  expected lane bind plain expects = absurd plain
  expected lane (start k i rs) plain expects = expects
  expected lane (confirm k m) plain expects = expects
  expected lane (to_end k) plain expects = expects
  expected lane (settle outcome k) plain expects = expects
  expected lane (abandon k) plain expects = absurd plain
  expected lane (secure k m piece) plain expects = absurd plain
  expected lane (complete k m piece) plain expects = absurd plain
  expected lane (drop_pieces k) plain expects = expects
  expected lane close plain expects = expects

  is-fenced : (lane : Lane) (step : LaneStep) → IsPlain step → g < lane.generation → IsFenced lane (Some g) step
  is-fenced lane (agree checkpoint window) plain later = later
  is-fenced lane bind plain later = absurd plain
  is-fenced lane (start k i rs) plain later = later
  is-fenced lane (confirm k m) plain later = later
  is-fenced lane (to_end k) plain later = later
  is-fenced lane (settle outcome k) plain later = later
  is-fenced lane (abandon k) plain later = absurd plain
  is-fenced lane (secure k m piece) plain later = absurd plain
  is-fenced lane (complete k m piece) plain later = absurd plain
  is-fenced lane (drop_pieces k) plain later = later
  is-fenced lane close plain later = later

  was-fenced : (lane : Lane) (step : LaneStep) → IsPlain step → IsFenced lane (Some g) step → g < lane.generation
  was-fenced lane (agree checkpoint window) plain fenced = fenced
  was-fenced lane bind plain fenced = absurd plain
  was-fenced lane (start k i rs) plain fenced = fenced
  was-fenced lane (confirm k m) plain fenced = fenced
  was-fenced lane (to_end k) plain fenced = fenced
  was-fenced lane (settle outcome k) plain fenced = fenced
  was-fenced lane (abandon k) plain fenced = absurd plain
  was-fenced lane (secure k m piece) plain fenced = absurd plain
  was-fenced lane (complete k m piece) plain fenced = absurd plain
  was-fenced lane (drop_pieces k) plain fenced = fenced
  was-fenced lane close plain fenced = fenced

  on-open : (lane : Lane) (step : LaneStep) → IsPlain step → lane_at n s.lanes.open_lanes ≡ Some lane
      → (IsOnLane s n (Some g) step moment → ⊥) → (b : Bool) → nat_lt g lane.generation ≡ b
      → IsRefused s (on_lane n (Some g) step) moment (cond b (Faults.Fenced lane.generation) Faults.Unexpected)
  on-open lane step plain found never true test = record {
    lane = lane;
    lane_is = found;
    fenced = is-fenced lane step plain (ltb-true g lane.generation test);
    generation_is = refl;
  }
  on-open lane step plain found never false test = record {
    lane = lane;
    lane_is = found;
    current = λ fenced. omega (arith, was-fenced lane step plain fenced, ltb-false g lane.generation test);
    not_now = λ current expects. never (record {
      lane = lane;
      lane_is = found;
      current = current;
      needs = expected lane step plain expects;
    });
  }

  refused-on : (step : LaneStep) → IsPlain step → (IsOnLane s n (Some g) step moment → ⊥) → (o : Option Lane)
      → lane_at n s.lanes.open_lanes ≡ o → IsRefused s (on_lane n (Some g) step) moment (refusal_on o n g)
  refused-on step plain never None none = (refl, none)
  refused-on step plain never (Some lane) found =
      on-open lane step plain found never (nat_lt g lane.generation) refl

  -- what the lane does not allow is refused so
  pub refused_plainly : (c : Class) → IsPlainOn n g c → (StepNeeds s c moment → ⊥)
      → IsRefused s c moment (refusal_on (lane_at n s.lanes.open_lanes) n g)
  refused_plainly (on_lane m h step) plain never =
      let fault = refusal_on (lane_at n s.lanes.open_lanes) n g in
      let base : (IsOnLane s n (Some g) step moment → ⊥) → IsRefused s (on_lane n (Some g) step) moment fault =
      λ no. refused-on step plain.2 no (lane_at n s.lanes.open_lanes) refl in
      let by_generation : (IsOnLane s n h step moment → ⊥) → IsRefused s (on_lane n h step) moment fault =
      subst (λ (x : Option ℕ). (IsOnLane s n x step moment → ⊥) → IsRefused s (on_lane n x step) moment fault)
      (sym plain.1) base in
      subst (λ (x : ℕ). (IsOnLane s x h step moment → ⊥) → IsRefused s (on_lane x h step) moment fault)
      (sym plain.0) by_generation never
  refused_plainly any0 plain never = absurd plain

-- ---- a Bind

bind-needs : (s : State) (n g moment : ℕ) (o : Option Lane) → lane_at n s.lanes.open_lanes ≡ o → IsNext o g
    → IsOnLane s n (Some g) bind moment
bind-needs s n g moment None found next = absurd next
bind-needs s n g moment (Some lane) found next = record {
  lane = lane;
  lane_is = found;
  current = ap (λ (x : ℕ). Some x) next;
  needs = tt;
}

none-to-bind : (o : Option Lane) → numbers_on o bind ≡ 0
none-to-bind None = refl
none-to-bind (Some lane) = refl

module _ (s : State) (n g : ℕ) (few : length s.machine.items < 2 ^ 32) where
  bind-left : length s.machine.items + numbers_needed s (class_of (steps.Bind n g)) < 2 ^ 32
  bind-left = omega (arith, few, none-to-bind (lane_at n s.lanes.open_lanes))

  pub bind_possible : IsNext (lane_at n s.lanes.open_lanes) g → IsPossible s (steps.Bind n g)
  bind_possible next =
      lane_possible s (steps.Bind n g) n (Some g) bind refl
      (bind-needs s n g s.moment (lane_at n s.lanes.open_lanes) refl next) (omega arith) bind-left

  pub bind_numbers : IsSpent s (steps.Bind n g) → ⊥
  bind_numbers spent = omega (arith, spent, bind-left)

-- the same of a generation that is equal
pub bind_along : {D : Type 0} (model : DiskView D) (n g h : ℕ) (old new : JournalShown D) (s s' : State)
    (a a' : List Step) (fault : Option StepFault) → g ≡ h → Makes model (steps.Bind n g) old s a new s' a' fault
    → Makes model (steps.Bind n h) old s a new s' a' fault
bind_along model n g h old new s s' a a' fault e m =
    subst (λ (x : ℕ). Makes model (steps.Bind n x) old s a new s' a' fault) e m
