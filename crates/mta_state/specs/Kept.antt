-- The state in memory, and what a step changes of it.
use Rattle.std.specs.Prelude.{◌≡◌, ℕ, ◌+◌, ◌<◌, ◌^◌, true, List, [], ◌∷◌, ◌++◌, length}
use Rattle.std.specs.Prelude.{Option, option_to_list, vec_len, vec_capacity}
use Rattle.mta_machine.specs.Items.{ItemValue, Machine}
use Rattle.mta_machine.specs.Machine.{machine_after, set_tables, set_format}
use Rattle.mta_state.specs.Parts.{machine_of, HasRoom, made_items, settled_machine}
use Rattle.mta_lanes.specs.declared.change.LaneChange.{LaneChange}
use Rattle.mta_lanes.specs.declared.change.LaneChange.TheVariants as lane_change
use Rattle.mta_lanes.specs.Changes.{MayChangeAt, put_changed}
use Rattle.mta_lanes.specs.Finds.{lanes_of}
use Rattle.mta_histories.specs.Lanes.{Lanes, State, lane_at, without_lane}
use Rattle.mta_histories.specs.History.{later}
use Rattle.mta_state.specs.declared.kept.Kept.{Kept}
use Rattle.mta_state.specs.declared.change.Settlement.{Settlement}
use Rattle.mta_state.specs.declared.change.Change.{Change}
use Rattle.mta_state.specs.declared.change.Change.TheVariants as change

-- the state that its parts in memory are
abbrev pub state_of : Kept → State
state_of k = record {
  machine = machine_of k.parts;
  lanes = lanes_of k.lanes;
  moment = k.moment;
  begun = k.begun;
}

-- the machine with an item more
abbrev pub with_item : Machine → ItemValue → ℕ → Machine
with_item m item moment = record m { items = m.items ++ item ∷ []; moment = moment }

-- the machine once a recipient of an activity's item is discharged
abbrev pub settled_one : Machine → ℕ → Settlement → ℕ → Machine
settled_one m i s moment =
    settled_machine m i (s.recipient ∷ []) s.status (option_to_list s.made) [] moment

-- the machine once recipients of an activity's item are discharged, the last of these first
abbrev pub settled_in_turn : Machine → ℕ → List Settlement → ℕ → Machine
settled_in_turn m i [] moment = m
settled_in_turn m i (s ∷ rest) moment = settled_one (settled_in_turn m i rest moment) i s moment

-- how many items these make
abbrev pub made_by_all : List Settlement → ℕ
made_by_all [] = 0
made_by_all (s ∷ rest) = length (option_to_list s.made) + made_by_all rest

-- the lanes with a change of the open lane of this number
abbrev pub lanes_changed : Lanes → ℕ → LaneChange → Lanes
lanes_changed lanes n change = record lanes {
  open_lanes = put_changed lanes.open_lanes (lane_at n lanes.open_lanes) change;
}

-- the state with a change
abbrev pub changed_state : State → Change → State
changed_state s (change.Begin kept) = state_of kept
changed_state s change.Format = record s { machine = machine_after s.machine set_format; begun = true }
changed_state s (change.Tables text) = record s { machine = machine_after s.machine (set_tables text); begun = true }
changed_state s (change.Accept item moment) = record s {
  machine = with_item s.machine item moment;
  moment = moment;
  begun = true;
}
changed_state s (change.Settle item recipient status made line moment) = record s {
  machine =
      settled_machine s.machine item (recipient ∷ []) status (made_items made) (option_to_list line) moment;
  moment = moment;
  begun = true;
}
changed_state s (change.Open lane moment) = record s {
  lanes = record { count = s.lanes.count + 1; open_lanes = s.lanes.open_lanes ++ lane ∷ [] };
  moment = moment;
  begun = true;
}
changed_state s (change.OnLane n new moment) = record s {
  lanes = lanes_changed s.lanes n new;
  moment = later s.moment moment;
  begun = true;
}
changed_state s (change.Complete n activity item moment) = record s {
  machine = with_item s.machine item moment;
  lanes = lanes_changed s.lanes n (lane_change.Complete activity);
  moment = moment;
  begun = true;
}
changed_state s (change.Discharge n new item settlements moment) = record s {
  machine = settled_in_turn s.machine item settlements.items moment;
  lanes = lanes_changed s.lanes n new;
  moment = moment;
  begun = true;
}
changed_state s (change.Close n) = record s {
  lanes = record s.lanes { open_lanes = without_lane n s.lanes.open_lanes };
  begun = true;
}

-- the change can be made: numbers of lanes stay in their range, and the change of a lane can be made
abbrev pub CanChange : State → Change → Type 0
CanChange s (change.Begin kept) = Unit {0}
CanChange s change.Format = Unit {0}
CanChange s (change.Tables text) = Unit {0}
CanChange s (change.Accept item moment) = Unit {0}
CanChange s (change.Settle item recipient status made line moment) = Unit {0}
CanChange s (change.Open lane moment) = s.lanes.count + 1 < 2 ^ 32
CanChange s (change.OnLane n new moment) = MayChangeAt (lane_at n s.lanes.open_lanes) new
CanChange s (change.Complete n activity item moment) = Unit {0}
CanChange s (change.Discharge n new item settlements moment) = MayChangeAt (lane_at n s.lanes.open_lanes) new
CanChange s (change.Close n) = Unit {0}

-- there is room for the change
abbrev pub HasRoomFor : Kept → Change → Type 0
HasRoomFor k (change.Begin kept) = Unit {0}
HasRoomFor k change.Format = Unit {0}
HasRoomFor k (change.Tables text) = HasRoom k.parts 1 0 0
HasRoomFor k (change.Accept item moment) = HasRoom k.parts 0 1 0
HasRoomFor k (change.Settle item recipient status made line moment) =
    HasRoom k.parts 0 (length (made_items made)) (length (option_to_list line))
HasRoomFor k (change.Open lane moment) = vec_len k.lanes.open_lanes < vec_capacity k.lanes.open_lanes
HasRoomFor k (change.OnLane n new moment) = Unit {0}
HasRoomFor k (change.Complete n activity item moment) = HasRoom k.parts 0 1 0
HasRoomFor k (change.Discharge n new item settlements moment) =
    HasRoom k.parts 0 (made_by_all settlements.items) 0
HasRoomFor k (change.Close n) = Unit {0}
