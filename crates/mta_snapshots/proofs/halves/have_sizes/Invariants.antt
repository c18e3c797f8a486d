use Rattle.std.proofs.Common.{drop}
use Rattle.std.specs.Prelude.{◌↔◌}
use Rattle.std.specs.List.{AllByRecursion}
use Rattle.mta_snapshots.specs.Lanes.{HasSize}
use Rattle.mta_snapshots.proofs.halves.have_sizes.Given as goal

abbrev pub invariant-loop-piece : goal.invariant-loop-piece
invariant-loop-piece l =
    AllByRecursion (HasSize l.checkpoint) l.pieces
    ↔ AllByRecursion (HasSize l.checkpoint) (drop l.piece-index l.pieces)
