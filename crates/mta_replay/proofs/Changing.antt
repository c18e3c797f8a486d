-- What a step on an open lane changes that does something of the machine of recipients.
use Rattle.std.proofs.Common.{◌≡◌, ◌≤◌, ◌<◌, ◌^◌, ℕ, true, List, [], ◌∷◌, ◌++◌, length, reverse}
use Rattle.std.proofs.Common.{Option, Some, None, Result, Ok, Err, IfOk, refl, sym, ap, subst, ◌∙◌, arith}
use Rattle.std.specs.Global.{Vec}
use Rattle.std.proofs.lemmas.Grind.{reverse_onto}
use Rattle.mta_records.specs.declared.step.Step.{Step}
use Rattle.mta_machine.specs.Items.{Machine}
use Rattle.mta_machine.specs.Machine.{MachineStep, machine_run}
use Rattle.mta_histories.specs.Lanes.{Lane, Lanes, State, lane_at, put_lane}
use Rattle.mta_histories.specs.Classes.{Class, LaneStep, on_lane, class_of, moment_of}
use Rattle.mta_histories.specs.History.{IsOnLane, IsPossible, MachineNeeds, StepNeeds}
use Rattle.mta_histories.specs.History.{lane_after, lane_steps, lanes_after, later, machine_left}
use Rattle.mta_histories.specs.History.{on_lane_after, on_lane_steps, when}
use Rattle.mta_lanes.specs.declared.change.LaneChange.{LaneChange}
use Rattle.mta_lanes.specs.Changes.{MayChangeAt, changed, put_changed}
use Rattle.mta_state.specs.declared.change.Change.{Change}
use Rattle.mta_state.specs.declared.change.Change.TheVariants as change
use Rattle.mta_state.specs.declared.change.Settlement.{Settlement}
use Rattle.mta_state.specs.Kept.{lanes_changed, settled_in_turn, settled_one}
use Rattle.mta_state.specs.Prepared.{Prepares}
use Rattle.mta_state.proofs.Turns.{last_first}
use Rattle.mta_replay.specs.Changes.{IsOpenFor, Makes, OpenFor, settled_in_order}

abbrev pub state : Machine → Lanes → ℕ → State
state m l t = record { machine = m; lanes = l; moment = t; begun = true }

module _ (s : State) (step : Step) (n : ℕ) (g : Option ℕ) (ls : LaneStep) (moment : ℕ)
    (class_is : class_of step ≡ on_lane n g ls) (moment_is : moment_of step ≡ Some moment)
  where
    when_is : when s step ≡ moment
    when_is = ap (λ (t : Option ℕ). later s.moment t) moment_is

    steps_are : (lane : Lane) → lane_at n s.lanes.open_lanes ≡ Some lane
        → on_lane_steps (lane_at n s.lanes.open_lanes) ls (when s step) ≡ lane_steps lane ls moment
    steps_are lane found =
        ap (λ (o : Option Lane). on_lane_steps o ls (when s step)) found
        ∙ ap (λ (t : ℕ). lane_steps lane ls t) when_is

    -- the machine behind the step
    pub machine_is : (lane : Lane) → lane_at n s.lanes.open_lanes ≡ Some lane
        → machine_left s (class_of step) (when s step) ≡ machine_run s.machine (lane_steps lane ls moment)
    machine_is lane found =
        ap (λ (k : Class). machine_left s k (when s step)) class_is
        ∙ ap (λ (ms : List MachineStep). machine_run s.machine ms) (steps_are lane found)

    lanes_are : (lane : Lane) (new : LaneChange) → lane_at n s.lanes.open_lanes ≡ Some lane
        → changed lane new ≡ lane_after s lane ls moment
        → on_lane_after s (Some lane) ls moment ≡ put_lane (lane_after s lane ls moment) s.lanes.open_lanes
        → lanes_changed s.lanes n new ≡ lanes_after s (class_of step) (when s step)
    lanes_are lane new found after stays =
        ap (λ (opens : List Lane). record s.lanes { open_lanes = opens })
        (ap (λ (o : Option Lane). put_changed s.lanes.open_lanes o new) found
        ∙ (ap (λ (l : Lane). put_lane l s.lanes.open_lanes) after
        ∙ (sym stays ∙ ap (λ (o : Option Lane). on_lane_after s o ls moment) (sym found))))
        ∙ (ap (λ (t : ℕ). lanes_after s (on_lane n g ls) t) (sym when_is)
        ∙ ap (λ (k : Class). lanes_after s k (when s step)) (sym class_is))

    allowed : (lane : Lane) → IsOpenFor s n g ls moment lane → StepNeeds s (class_of step) (when s step)
    allowed lane may =
        subst (λ (k : Class). StepNeeds s k (when s step)) (sym class_is)
        (subst (λ (t : ℕ). IsOnLane s n g ls t) (sym when_is)
        (record { lane = lane; lane_is = may.found; current = may.current; needs = may.needs }))

    possible : (lane : Lane) → IsOpenFor s n g ls moment lane
        → length (machine_run s.machine (lane_steps lane ls moment)).items < 2 ^ 32 → IsPossible s step
    possible lane may few = record {
      allowed = allowed lane may;
      as_machine = subst (λ (k : Class). MachineNeeds s k (when s step)) (sym class_is) tt;
      timely = subst (λ (t : ℕ). s.moment ≤ t) (sym when_is) may.timely;
      numbers = subst (λ (m : Machine). length m.items < 2 ^ 32) (sym (machine_is lane may.found)) few;
    }

    -- a change that does the step's work is the step's
    pub prepared : (lane : Lane) (new : LaneChange) → IsOpenFor s n g ls moment lane
        → changed lane new ≡ lane_after s lane ls moment
        → on_lane_after s (Some lane) ls moment ≡ put_lane (lane_after s lane ls moment) s.lanes.open_lanes
        → (o : Option Change) → Makes s (lane_steps lane ls moment) n new moment o → Prepares s step o
    prepared lane new may after stays None many =
        λ possible.
        let same : length (machine_left s (class_of step) (when s step)).items
        ≡ length (machine_run s.machine (lane_steps lane ls moment)).items =
        ap (λ (m : Machine). length m.items) (machine_is lane may.found) in
        let few = possible.numbers in
        absurd (omega (arith, many, few, same))
    prepared lane new may after stays (Some c) is = record {
      possible = possible lane may is.numbers;
      after =
          is.after
          ∙ (ap (λ (m : Machine). state m (lanes_changed s.lanes n new) moment) (sym (machine_is lane may.found))
          ∙ (ap (λ (l : Lanes). state (machine_left s (class_of step) (when s step)) l moment)
          (lanes_are lane new may.found after stays)
          ∙ ap (λ (t : ℕ). state (machine_left s (class_of step) (when s step))
          (lanes_after s (class_of step) (when s step)) t) (sym when_is)));
      can = is.can;
    }

    -- the same of what is found where memory suffices
    pub prepared_all : {E : Type 0} (lane : Lane) (new : LaneChange) → IsOpenFor s n g ls moment lane
        → changed lane new ≡ lane_after s lane ls moment
        → on_lane_after s (Some lane) ls moment ≡ put_lane (lane_after s lane ls moment) s.lanes.open_lanes
        → (r : Result (Option Change) E) → IfOk r (Makes s (lane_steps lane ls moment) n new moment)
        → IfOk r (Prepares s step)
    prepared_all lane new may after stays (Ok o) made = prepared lane new may after stays o made
    prepared_all lane new may after stays (Err e) made = made

    -- where the step may not be made on the lane, it is not possible
    pub not_prepared : OpenFor s n g ls moment None → Prepares s step None
    not_prepared never =
        λ possible.
        let on : IsOnLane s n g ls moment =
        subst (λ (t : ℕ). IsOnLane s n g ls t) when_is
        (subst (λ (k : Class). StepNeeds s k (when s step)) class_is possible.allowed) in
        never on.lane (record {
          found = on.lane_is;
          current = on.current;
          needs = on.needs;
          timely = subst (λ (t : ℕ). s.moment ≤ t) when_is possible.timely;
        })

-- ---- recipients in their order

-- they are discharged in their order where the list of them is turned round
pub in_order : (m : Machine) (i : ℕ) (ss : List Settlement) (moment : ℕ)
    → settled_in_turn m i (reverse ss) moment ≡ settled_in_order m i ss moment
in_order m i [] moment = refl
in_order m i (s ∷ ss) moment =
    ap (λ (xs : List Settlement). settled_in_turn m i xs moment) (reverse_onto ss s [])
    ∙ (last_first m i (reverse ss) s moment ∙ in_order (settled_one m i s moment) i ss moment)

-- one more
pub one_more : (m : Machine) (i : ℕ) (ss : List Settlement) (s : Settlement) (moment : ℕ)
    → settled_in_order m i (ss ++ s ∷ []) moment ≡ settled_one (settled_in_order m i ss moment) i s moment
one_more m i [] s moment = refl
one_more m i (x ∷ ss) s moment = one_more (settled_one m i x moment) i ss s moment

-- a change by which recipients are discharged makes what they are discharged by
pub discharging : (s : State) (n : ℕ) (new : LaneChange) (i : ℕ) (turned : Vec Settlement)
    (ss : List Settlement) (moment : ℕ) (steps : List MachineStep) → turned.items ≡ reverse ss
    → settled_in_order s.machine i ss moment ≡ machine_run s.machine steps
    → MayChangeAt (lane_at n s.lanes.open_lanes) new
    → length (machine_run s.machine steps).items < 2 ^ 32
    → Makes s steps n new moment (Some (change.Discharge n new i turned moment))
discharging s n new i turned ss moment steps is same can few = record {
  after =
      ap (λ (m : Machine). state m (lanes_changed s.lanes n new) moment)
      (ap (λ (xs : List Settlement). settled_in_turn s.machine i xs moment) is
      ∙ (in_order s.machine i ss moment ∙ same));
  can = can;
  numbers = few;
}
