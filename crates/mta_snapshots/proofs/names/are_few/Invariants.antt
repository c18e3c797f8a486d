use Rattle.std.proofs.Common.{drop}
use Rattle.std.specs.Prelude.{◌↔◌}
use Rattle.std.specs.List.{AllByRecursion}
use Rattle.mta_snapshots.specs.Names.{IsWithFew}
use Rattle.mta_snapshots.proofs.names.are_few.Given as goal

abbrev pub invariant-loop-lane : goal.invariant-loop-lane
invariant-loop-lane l =
    AllByRecursion (IsWithFew l.lanes.open_lanes.items) l.lane-items
    ↔ AllByRecursion (IsWithFew l.lanes.open_lanes.items) (drop l.lane-index l.lane-items)
