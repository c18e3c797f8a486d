use Rattle.std.proofs.Common.{take}
use Rattle.mta_histories.specs.Lanes.{EachLane}
use Rattle.mta_replay.specs.Opening.{IsUnnamed}
use Rattle.mta_replay.proofs.open.is_new.Given as goal

abbrev pub invariant-loop-lane : goal.invariant-loop-lane
invariant-loop-lane l = EachLane (IsUnnamed l.role l.peer l.reference) (take l.lane-index l.open_lanes)
