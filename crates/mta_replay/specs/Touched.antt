-- Which recipients wait, and which may do so no more, or again, after a change.
use Rattle.std.specs.Prelude.{◌≡◌, ◌⊎◌, ◌==◌, ◌&&◌, ℕ, Bool, List, Option, Some, None}
use Rattle.mta_lanes.specs.declared.change.LaneChange.{LaneChange}
use Rattle.mta_lanes.specs.declared.change.LaneChange.TheVariants as lane_change
use Rattle.mta_machine.specs.Items.{is_pending_at}
use Rattle.mta_histories.specs.Lanes.{Lane, State, Transfer, activities_of, lane_at}
use Rattle.mta_state.specs.declared.change.Change.{Change}
use Rattle.mta_state.specs.declared.change.Change.TheVariants as change
use Rattle.mta_replay.specs.declared.touched.Touched.{Touched}
use Rattle.mta_replay.specs.declared.touched.Touched.TheVariants.{Nothing, One, All, Both}

-- the recipient is pending and in no activity
abbrev pub is_waiting : State → (i r : ℕ) → Bool
is_waiting s i r = is_pending_at s.machine i r && (activities_of s.lanes.open_lanes i r == 0)

abbrev pub item_in : Option Transfer → Option ℕ
item_in None = None
item_in (Some t) = Some t.item

abbrev pub item_on : Option Lane → Option ℕ
item_on None = None
item_on (Some lane) = item_in lane.transfer

-- the item of whose recipients an activity begins or ends by a change of a lane
abbrev pub item_by : Option Lane → LaneChange → Option ℕ
item_by o (lane_change.Agree checkpoint window) = None
item_by o lane_change.Bind = None
item_by o (lane_change.Start transfer) = Some transfer.item
item_by o (lane_change.Confirm k n) = None
item_by o (lane_change.ToEnd k) = None
item_by o lane_change.Settle = item_on o
item_by o (lane_change.Abandon k) = item_on o
item_by o (lane_change.Secure k n piece places) = None
item_by o (lane_change.Complete k) = None
item_by o lane_change.DropPieces = None

abbrev pub all_of : Option ℕ → Touched
all_of None = Nothing
all_of (Some i) = All i

abbrev pub also : Option ℕ → ℕ → Touched
also None i = All i
also (Some j) i = Both j i

-- whose recipients a change touches by which a history goes on. Those of items that it makes are touched besides.
abbrev pub touched_by : List Lane → Change → Touched
touched_by lanes (change.Begin kept) = Nothing
touched_by lanes change.Format = Nothing
touched_by lanes (change.Tables text) = Nothing
touched_by lanes (change.Accept item moment) = Nothing
touched_by lanes (change.Settle item recipient status made line moment) = One item recipient
touched_by lanes (change.Open lane moment) = all_of (item_in lane.transfer)
touched_by lanes (change.OnLane n new moment) = all_of (item_by (lane_at n lanes) new)
touched_by lanes (change.Complete n activity item moment) = Nothing
touched_by lanes (change.Discharge n new item settlements moment) = also (item_by (lane_at n lanes) new) item
touched_by lanes (change.Close n) = all_of (item_on (lane_at n lanes))

-- the recipient is among them
abbrev pub IsTouched : Touched → (i r : ℕ) → Type 0
IsTouched Nothing i r = ⊥
IsTouched (One item recipient) i r = (i ≡ item) × (r ≡ recipient)
IsTouched (All item) i r = i ≡ item
IsTouched (Both item other) i r = (i ≡ item) ⊎ (i ≡ other)
