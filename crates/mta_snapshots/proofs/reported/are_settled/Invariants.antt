use Rattle.std.proofs.Common.{drop}
use Rattle.std.specs.Prelude.{◌↔◌}
use Rattle.mta_histories.specs.Lanes.{EachLane}
use Rattle.mta_histories.specs.Kept.{IsDroppedReported}
use Rattle.mta_state.specs.Parts.{machine_of}
use Rattle.mta_snapshots.proofs.reported.are_settled.Given as goal

abbrev pub invariant-loop-lane : goal.invariant-loop-lane
invariant-loop-lane l =
    EachLane (IsDroppedReported (machine_of l.parts)) l.lanes
    ↔ EachLane (IsDroppedReported (machine_of l.parts)) (drop l.lane-index l.lanes)
