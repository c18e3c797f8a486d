use Rattle.std.proofs.Common.{drop}
use Rattle.mta_lanes.proofs.Cuts.{AreTaken}
use Rattle.mta_lanes.proofs.pieces.copies_of.Given as goal

abbrev pub invariant-loop-end : goal.invariant-loop-end
invariant-loop-end l = AreTaken l.octets l.ends l.pieces.items l.from (drop l.end-index l.ends)
