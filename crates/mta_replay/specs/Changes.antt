-- What a step on an open lane changes that does something of the machine of recipients.
use Rattle.std.specs.Prelude.{◌≡◌, ℕ, ◌<◌, ◌≤◌, ◌^◌, true, List, [], ◌∷◌, length, Option, Some, None}
use Rattle.mta_machine.specs.Items.{Machine}
use Rattle.mta_machine.specs.Machine.{MachineStep, machine_run}
use Rattle.mta_records.specs.declared.state.Status.TheVariants.{Sent}
use Rattle.mta_histories.specs.Lanes.{Lane, State, lane_at}
use Rattle.mta_histories.specs.Classes.{LaneStep}
use Rattle.mta_histories.specs.History.{IsOfGeneration, LaneNeeds}
use Rattle.mta_lanes.specs.declared.change.LaneChange.{LaneChange}
use Rattle.mta_state.specs.declared.change.Change.{Change}
use Rattle.mta_state.specs.declared.change.Settlement.{Settlement}
use Rattle.mta_state.specs.Kept.{CanChange, changed_state, lanes_changed, settled_one}

-- the step may be made at a moment on this open lane
pub record IsOpenFor (s : State) (n : ℕ) (generation : Option ℕ) (step : LaneStep) (moment : ℕ)
    (lane : Lane) : Type 0 where
  pub found : lane_at n s.lanes.open_lanes ≡ Some lane
  pub current : IsOfGeneration lane generation step
  pub needs : LaneNeeds s lane step moment
  pub timely : s.moment ≤ moment

-- the open lane on which the step may be made, or none
abbrev pub OpenFor : State → ℕ → Option ℕ → LaneStep → ℕ → Option Lane → Type 0
OpenFor s n generation step moment None = (lane : Lane) → IsOpenFor s n generation step moment lane → ⊥
OpenFor s n generation step moment (Some lane) = IsOpenFor s n generation step moment lane

-- the change makes these steps of the machine, and this change of an open lane
pub record IsMaking (s : State) (steps : List MachineStep) (n : ℕ) (new : LaneChange) (moment : ℕ)
    (change : Change) : Type 0 where
  pub after : changed_state s change ≡ record {
    machine = machine_run s.machine steps;
    lanes = lanes_changed s.lanes n new;
    moment = moment;
    begun = true;
  }
  pub can : CanChange s change
  pub numbers : length (machine_run s.machine steps).items < 2 ^ 32

-- such a change, or none where an item would have a number that is too great
abbrev pub Makes : State → List MachineStep → ℕ → LaneChange → ℕ → Option Change → Type 0
Makes s steps n new moment None = 2 ^ 32 ≤ length (machine_run s.machine steps).items
Makes s steps n new moment (Some change) = IsMaking s steps n new moment change

-- the machine once recipients of an item are discharged, the first of these first
abbrev pub settled_in_order : Machine → ℕ → List Settlement → ℕ → Machine
settled_in_order m i [] moment = m
settled_in_order m i (s ∷ rest) moment = settled_in_order (settled_one m i s moment) i rest moment

-- a recipient to whom an item was sent
abbrev pub sent_one : List ℕ → ℕ → ℕ → Settlement
sent_one peer moment r = record { recipient = r; status = Sent moment peer; made = None }
