use Rattle.std.proofs.Common.{drop}
use Rattle.std.specs.Prelude.{◌↔◌}
use Rattle.mta_snapshots.specs.Marks.{AreOnceAmong}
use Rattle.mta_snapshots.proofs.once.take_each.Given as goal

abbrev pub invariant-loop-lane : goal.invariant-loop-lane
invariant-loop-lane l = AreOnceAmong l.fn.marks l.lanes ↔ AreOnceAmong l.marks (drop l.lane-index l.lanes)
