use Rattle.std.proofs.Common.{◌≡◌, ◌++◌, drop}
use Rattle.mta_show.specs.Lanes.{lane_lines}
use Rattle.mta_show.proofs.lanes.put_lane_lines.Given as goal

abbrev pub invariant-loop-lane : goal.invariant-loop-lane
invariant-loop-lane l = l.out ++ lane_lines (drop l.lane-index l.lanes) ≡ l.fn.out ++ lane_lines l.lanes
