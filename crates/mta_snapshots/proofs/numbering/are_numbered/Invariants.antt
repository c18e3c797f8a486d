use Rattle.std.proofs.Common.{drop}
use Rattle.std.specs.Prelude.{◌↔◌}
use Rattle.mta_histories.specs.Kept.{AreNumbered}
use Rattle.mta_snapshots.proofs.numbering.are_numbered.Given as goal

abbrev pub invariant-loop-lane : goal.invariant-loop-lane
invariant-loop-lane l = AreNumbered 0 l.lanes l.most ↔ AreNumbered l.above (drop l.lane-index l.lanes) l.most
