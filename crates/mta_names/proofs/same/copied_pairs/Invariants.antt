use Rattle.std.proofs.Common.{◌≡◌, take}
use Rattle.mta_names.proofs.same.copied_pairs.Given as goal

abbrev pub invariant-loop-pair : goal.invariant-loop-pair
invariant-loop-pair l = l.row ≡ take l.pair-index l.pairs
