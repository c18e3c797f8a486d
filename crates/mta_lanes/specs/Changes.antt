-- The changes that steps make of a lane.
use Rattle.std.specs.Prelude.{◌≤◌, ◌<◌, ◌+◌, ◌^◌, true, List, [], length}
use Rattle.std.specs.Prelude.{Option, Some, None}
use Rattle.std.specs.List.{concat}
use Rattle.mta_lane_send.specs.Half as send
use Rattle.mta_lane_recv.specs.declared.state.Last.TheVariants as last
use Rattle.mta_histories.specs.Lanes.{Lane, put_lane}
use Rattle.mta_histories.specs.Classes.{agree}
use Rattle.mta_histories.specs.History.{Sends, sends, with_piece, longest_activity}
use Rattle.mta_lanes.specs.Lane.{OfLane, MayStart}
use Rattle.mta_lanes.specs.Pieces.{HasPlace}
use Rattle.mta_lanes.specs.declared.change.LaneChange.{LaneChange}
use Rattle.mta_lanes.specs.declared.change.LaneChange.TheVariants as change

-- the change can be made: the halves allow it, numbers stay in their ranges, and there is a place for a piece
abbrev pub MayChange : Lane → LaneChange → Type 0
MayChange lane (change.Agree checkpoint window) = OfLane lane (agree checkpoint window)
MayChange lane change.Bind = lane.generation + 1 < 2 ^ 64
MayChange lane (change.Start transfer) = MayStart lane transfer
MayChange lane (change.Confirm k n) = Sends lane (send.Confirm k n)
MayChange lane (change.ToEnd k) = Sends lane (send.To_end k)
MayChange lane change.Settle = Unit {0}
MayChange lane (change.Abandon k) = Sends lane (send.Abandon k)
MayChange lane (change.Secure k n piece places) =
    HasPlace lane.pieces n piece places × (length (concat (with_piece lane.pieces n piece)) ≤ longest_activity)
MayChange lane (change.Complete k) = Unit {0}
MayChange lane change.DropPieces = Unit {0}

abbrev pub changed : Lane → LaneChange → Lane
changed lane (change.Agree checkpoint window) = record lane {
  checkpoint = checkpoint;
  window = window;
  agreed = true;
}
changed lane change.Bind = record lane { generation = lane.generation + 1 }
changed lane (change.Start transfer) = record lane {
  sending = sends lane (send.Start 0);
  transfer = Some transfer;
}
changed lane (change.Confirm k n) = record lane { sending = sends lane (send.Confirm k n) }
changed lane (change.ToEnd k) = record lane { sending = sends lane (send.To_end k) }
changed lane change.Settle = record lane { sending = sends lane (send.Sent 0); transfer = None }
changed lane (change.Abandon k) = record lane { sending = sends lane (send.Abandon k) }
changed lane (change.Secure k n piece places) = record lane {
  high = k;
  last = last.Partial k n;
  pieces = with_piece lane.pieces n piece;
}
changed lane (change.Complete k) = record lane { high = k; last = last.Done k; pieces = [] }
changed lane change.DropPieces = record lane { last = last.None; pieces = [] }

-- the change can be made of a lane, where there is one
abbrev pub MayChangeAt : Option Lane → LaneChange → Type 0
MayChangeAt None change = Unit {0}
MayChangeAt (Some lane) change = MayChange lane change

-- the open lanes with the change made of one, where there is one
abbrev pub put_changed : List Lane → Option Lane → LaneChange → List Lane
put_changed lanes None change = lanes
put_changed lanes (Some lane) change = put_lane (changed lane change) lanes
