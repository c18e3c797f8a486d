use Rattle.std.proofs.Common.{◌≡◌, take}
use Rattle.mta_snapshots.proofs.recorded.lanes_of.Given as goal

abbrev pub invariant-loop-lane : goal.invariant-loop-lane
invariant-loop-lane l = l.records.items ≡ take l.lane-index l.lanes
