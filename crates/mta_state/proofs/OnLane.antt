-- A step on a lane that looks at the lane alone, and makes nothing of the machine.
use Rattle.std.proofs.Common.{◌≡◌, ◌≤◌, ◌<◌, ◌^◌, ℕ, List, [], length, Option, Some, None, refl}
use Rattle.std.proofs.Common.{sym, ap, subst, ◌∙◌, arith}
use Rattle.std.proofs.Common.{Bool, true, false, cond, eqb, ◌∷◌}
use Rattle.std.proofs.lemmas.Bool.{eqb-true}
use Rattle.std.proofs.lemmas.Option.{same_Some}
use Rattle.mta_records.specs.declared.step.Step.{Step}
use Rattle.mta_records.specs.declared.step.Step.TheVariants as step
use Rattle.mta_machine.specs.Items.{Machine}
use Rattle.mta_machine.specs.Machine.{MachineStep, machine_run}
use Rattle.mta_histories.specs.Lanes.{Lane, Lanes, State, lane_at, put_lane, without_lane}
use Rattle.mta_histories.specs.Classes.{Class, LaneStep, on_lane, close, class_of, moment_of}
use Rattle.mta_histories.specs.History.{IsPossible, IsOnLane, on_lane_steps, IsOfGeneration, LaneNeeds, StepNeeds}
use Rattle.mta_histories.specs.History.{MachineNeeds, lane_steps, lane_after, on_lane_after, lanes_after}
use Rattle.mta_histories.specs.History.{machine_left, when}
use Rattle.mta_lanes.specs.declared.change.LaneChange.{LaneChange}
use Rattle.mta_lanes.specs.Changes.{MayChange, MayChangeAt, changed, put_changed}
use Rattle.mta_state.specs.declared.change.Change.TheVariants as change
use Rattle.mta_state.specs.Kept.{lanes_changed}
use Rattle.mta_state.specs.Prepared.{IsChangeOf}

-- what such a step needs of a state, and what it changes of its lane
pub record Row (s : State) (step : Step) (n : ℕ) (g : Option ℕ) (ls : LaneStep) (lane : Lane)
    (c : LaneChange) : Type 0 where
  pub class_is : class_of step ≡ on_lane n g ls
  pub found : lane_at n s.lanes.open_lanes ≡ Some lane
  pub current : IsOfGeneration lane g ls
  pub needs : LaneNeeds s lane ls (when s step)
  pub quiet : lane_steps lane ls (when s step) ≡ []
  pub after : changed lane c ≡ lane_after s lane ls (when s step)
  pub stays : on_lane_after s (Some lane) ls (when s step)
      ≡ put_lane (lane_after s lane ls (when s step)) s.lanes.open_lanes
  pub may : MayChange lane c
  pub timely : s.moment ≤ when s step
  pub numbers : length s.machine.items < 2 ^ 32

abbrev state : Machine → Lanes → ℕ → State
state m l t = record { machine = m; lanes = l; moment = t; begun = true }

module _ (s : State) (step : Step) (n : ℕ) (g : Option ℕ) (ls : LaneStep) (lane : Lane) (c : LaneChange) where
  no_steps : Row s step n g ls lane c → on_lane_steps (lane_at n s.lanes.open_lanes) ls (when s step) ≡ []
  no_steps row = ap (λ (l : Option Lane). on_lane_steps l ls (when s step)) row.found ∙ row.quiet

  same_machine : Row s step n g ls lane c → machine_left s (class_of step) (when s step) ≡ s.machine
  same_machine row =
      ap (λ (k : Class). machine_left s k (when s step)) row.class_is
      ∙ ap (λ (ms : List MachineStep). machine_run s.machine ms) (no_steps row)

  new_lanes : Row s step n g ls lane c → lanes_changed s.lanes n c ≡ lanes_after s (class_of step) (when s step)
  new_lanes row =
      ap (λ (ls : List Lane). record s.lanes { open_lanes = ls })
      (ap (λ (l : Option Lane). put_changed s.lanes.open_lanes l c) row.found
      ∙ (ap (λ (new : Lane). put_lane new s.lanes.open_lanes) row.after
      ∙ (sym row.stays
      ∙ ap (λ (l : Option Lane). on_lane_after s l ls (when s step)) (sym row.found))))
      ∙ ap (λ (k : Class). lanes_after s k (when s step)) (sym row.class_is)

  possible : Row s step n g ls lane c → IsPossible s step
  possible row = record {
    allowed = subst (λ (k : Class). StepNeeds s k (when s step)) (sym row.class_is)
        (record { lane = lane; lane_is = row.found; current = row.current; needs = row.needs });
    as_machine = subst (λ (k : Class). MachineNeeds s k (when s step)) (sym row.class_is) tt;
    timely = row.timely;
    numbers = subst (λ (m : Machine). length m.items < 2 ^ 32) (sym (same_machine row)) row.numbers;
  }

  -- so this is the change
  pub on_lane_change : Row s step n g ls lane c → IsChangeOf s step (change.OnLane n c (moment_of step))
  on_lane_change row = record {
    possible = possible row;
    after =
        ap (λ (m : Machine). state m (lanes_changed s.lanes n c) (when s step)) (sym (same_machine row))
        ∙ ap (λ (l : Lanes). state (machine_left s (class_of step) (when s step)) l (when s step)) (new_lanes row);
    can = subst (λ (l : Option Lane). MayChangeAt l c) (sym row.found) row.may;
  }

-- a step on a lane that is not open is not possible
pub not_open : (s : State) (step : Step) (n : ℕ) (g : Option ℕ) (ls : LaneStep) → class_of step ≡ on_lane n g ls
    → lane_at n s.lanes.open_lanes ≡ None → IsPossible s step → ⊥
not_open s step n g ls e none possible =
    let on : IsOnLane s n g ls (when s step) =
    subst (λ (k : Class). StepNeeds s k (when s step)) e possible.allowed in
    let both : None ≡ Some on.lane = sym none ∙ on.lane_is in absurd cc

-- nor is one that its lane does not allow
pub not_allowed : (s : State) (step : Step) (n : ℕ) (g : Option ℕ) (ls : LaneStep) (lane : Lane)
    → class_of step ≡ on_lane n g ls → lane_at n s.lanes.open_lanes ≡ Some lane
    → (IsOfGeneration lane g ls → LaneNeeds s lane ls (when s step) → ⊥) → IsPossible s step → ⊥
not_allowed s step n g ls lane e found never possible =
    let on : IsOnLane s n g ls (when s step) =
    subst (λ (k : Class). StepNeeds s k (when s step)) e possible.allowed in
    let same : on.lane ≡ lane = same_Some on.lane lane (sym on.lane_is ∙ found) in
    never (subst (λ (l : Lane). IsOfGeneration l g ls) same on.current)
    (subst (λ (l : Lane). LaneNeeds s l ls (when s step)) same on.needs)

-- ---- a lane that is closed

number_at : (lanes : List Lane) (n : ℕ) (lane : Lane) → lane_at n lanes ≡ Some lane → n ≡ lane.number
number_at [] n lane e = absurd cc
number_at (l ∷ lanes) n lane e = by_test (number_at lanes n lane) (eqb n l.number) refl e
  where
    by_test : (lane_at n lanes ≡ Some lane → n ≡ lane.number) → (b : Bool) → eqb n l.number ≡ b
        → cond b (Some l) (lane_at n lanes) ≡ Some lane → n ≡ lane.number
    by_test more true test same =
        eqb-true n l.number test ∙ ap (λ (x : Lane). x.number) (same_Some l lane same)
    by_test more false test rest = more rest

module _ (s : State) (n g : ℕ) (few : length s.machine.items < 2 ^ 32) (on : IsOnLane s n
    (Some g) close s.moment) where
  run_is : s.machine ≡ machine_run s.machine (on_lane_steps (lane_at n s.lanes.open_lanes) close s.moment)
  run_is = sym
      (ap (λ (o : Option Lane). machine_run s.machine (on_lane_steps o close s.moment)) on.lane_is)

  left_is : without_lane n s.lanes.open_lanes ≡ on_lane_after s (lane_at n s.lanes.open_lanes) close s.moment
  left_is =
      ap (λ (k : ℕ). without_lane k s.lanes.open_lanes) (number_at s.lanes.open_lanes n on.lane on.lane_is)
      ∙ sym (ap (λ (o : Option Lane). on_lane_after s o close s.moment) on.lane_is)

  pub on_close : IsChangeOf s (step.CloseLane n g) (change.Close n)
  on_close = record {
    possible = record {
      allowed = on;
      as_machine = tt;
      timely = omega arith;
      numbers = subst (λ (m : Machine). length m.items < 2 ^ 32) run_is few;
    };
    after =
        ap (λ (m : Machine). state m
        (record s.lanes { open_lanes = without_lane n s.lanes.open_lanes }) s.moment) run_is
        ∙ ap (λ (ls : List Lane). state
        (machine_run s.machine (on_lane_steps (lane_at n s.lanes.open_lanes) close s.moment))
        (record s.lanes { open_lanes = ls }) s.moment) left_is;
    can = tt;
  }
