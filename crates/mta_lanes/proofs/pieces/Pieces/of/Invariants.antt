use Rattle.std.proofs.Common.{take}
use Rattle.mta_lanes.proofs.Cuts.{AreCut}
use Rattle.mta_lanes.proofs.pieces.Pieces.of.Given as goal

abbrev pub invariant-loop-piece : goal.invariant-loop-piece
invariant-loop-piece l = AreCut (take l.piece-index l.pieces) l.octets.items l.ends.items
