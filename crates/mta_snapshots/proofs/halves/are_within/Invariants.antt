use Rattle.std.proofs.Common.{◌≡◌, ◌≤◌, length, take}
use Rattle.std.specs.List.{concat}
use Rattle.mta_snapshots.proofs.halves.are_within.Given as goal

abbrev pub invariant-loop-piece : goal.invariant-loop-piece
invariant-loop-piece l = record {
  same : l.size ≡ length (concat (take l.piece-index l.pieces));
  most : l.size ≤ 2097152;
}
