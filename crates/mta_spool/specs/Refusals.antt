-- Why a step is refused for the lane on which it stands, before its record is written: beside the numbers that are
-- left, memory and the disk.
use Rattle.std.specs.Prelude.{◌≡◌, ℕ, ◌<◌, ◌≤◌, true, List, length, count_by, Option, None, Some}
use Rattle.mta_records.specs.Reference.{Identifier}
use Rattle.mta_records.specs.declared.lane.LaneRole.{LaneRole}
use Rattle.mta_records.specs.declared.fault.StepFault.{StepFault}
use Rattle.mta_records.specs.declared.fault.StepFault.TheVariants as Faults
use Rattle.mta_lane_recv.specs.Half.{RecvStep}
use Rattle.mta_lane_recv.specs.Half as recv
use Rattle.mta_machine.specs.Items.{numbered}
use Rattle.mta_machine.specs.Machine.{last_tables}
use Rattle.mta_histories.specs.Lanes.{Lane, State, lane_at, EachLane}
use Rattle.mta_histories.specs.Classes.{LaneStep, bind, abandon, secure, complete, Class, opens, on_lane}
use Rattle.mta_histories.specs.History.{IsOfGeneration, LaneNeeds, NamesPeer, Receives, is_with}
use Rattle.mta_histories.specs.History.{longest_piece, most_lanes}

-- ---- a step on a lane

-- the lane was bound again since the generation that the step tells
abbrev pub IsFenced : Lane → Option ℕ → LaneStep → Type 0
IsFenced lane None step = ⊥
IsFenced lane (Some g) bind = ⊥
IsFenced lane (Some g) (abandon k) = ⊥
IsFenced lane (Some g) step = g < lane.generation

-- the receiving half takes this piece, if the octets are not too many in all
pub record ExpectsPiece (lane : Lane) (step : RecvStep) (piece : List ℕ) : Type 0 where
  pub agreed : lane.agreed ≡ true
  pub taken : Receives lane step
  pub some_octets : 1 ≤ length piece
  pub short : length piece ≤ longest_piece lane.checkpoint

-- the lane allows the step, but for what its octets spell
abbrev pub LaneExpects : State → Lane → LaneStep → ℕ → Type 0
LaneExpects s lane (secure k n piece) moment = ExpectsPiece lane (recv.Secure k n) piece
LaneExpects s lane (complete k n piece) moment = ExpectsPiece lane (recv.Complete k n) piece
LaneExpects s lane step moment = LaneNeeds s lane step moment

-- the lane is open, was not bound again, and allows no such step now
pub record IsUnexpected (s : State) (n : ℕ) (g : Option ℕ) (step : LaneStep) (moment : ℕ) : Type 0 where
  pub lane : Lane
  pub lane_is : lane_at n s.lanes.open_lanes ≡ Some lane
  pub current : IsFenced lane g step → ⊥
  pub not_now : IsOfGeneration lane g step → LaneExpects s lane step moment → ⊥

pub record IsBoundAgain (s : State) (n : ℕ) (g : Option ℕ) (step : LaneStep) (generation : ℕ) : Type 0 where
  pub lane : Lane
  pub lane_is : lane_at n s.lanes.open_lanes ≡ Some lane
  pub fenced : IsFenced lane g step
  pub generation_is : generation ≡ lane.generation

-- ---- a lane that is opened

-- it may be opened, if not too many of the role are open with the peer
pub record MayOpen (s : State) (role : LaneRole) (peer : List ℕ) (name : Identifier)
    (size window : ℕ) : Type 0 where
  pub named : NamesPeer (numbered s.machine.tables (last_tables s.machine)) peer
  pub new : EachLane (λ lane. lane.role ≡ role → lane.peer ≡ peer → lane.reference ≡ name → ⊥)
      s.lanes.open_lanes
  pub checkpoint_fits : size ≤ 64
  pub window_fits : (1 ≤ window) × (window ≤ 8)

abbrev pub open_with : State → LaneRole → List ℕ → ℕ
open_with s role peer = count_by (is_with role peer) s.lanes.open_lanes

-- ---- the refusals

-- the fault is one of these, and it stands in the state
abbrev pub IsRefused : State → Class → (moment : ℕ) → StepFault → Type 0
IsRefused s (on_lane n g step) moment (Faults.NoLane m) = (m ≡ n) × (lane_at n s.lanes.open_lanes ≡ None)
IsRefused s (on_lane n g step) moment (Faults.Fenced generation) = IsBoundAgain s n g step generation
IsRefused s (on_lane n g step) moment Faults.Unexpected = IsUnexpected s n g step moment
IsRefused s (opens role peer name twa size window) moment Faults.Unexpected = MayOpen s role peer name size window
    → ⊥
IsRefused s (opens role peer name twa size window) moment (Faults.BusyLanes count) =
    MayOpen s role peer name size window × (count ≡ open_with s role peer) × (most_lanes ≤ count)
IsRefused s c moment fault = ⊥

-- it is one of the refusals of the steps of lanes
abbrev pub IsOfLane : StepFault → Type 0
IsOfLane (Faults.NoLane lane) = Unit {0}
IsOfLane (Faults.Fenced generation) = Unit {0}
IsOfLane Faults.Unexpected = Unit {0}
IsOfLane (Faults.BusyLanes count) = Unit {0}
IsOfLane fault = ⊥
