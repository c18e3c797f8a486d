use Rattle.mta_names.specs.Lists.{canonical_pair}
use Rattle.mta_names.proofs.LengthLaws.{IsToldTo}
use Rattle.mta_names.proofs.length.all_pairs_length.Given as goal

abbrev pub invariant-loop-pair : goal.invariant-loop-pair
invariant-loop-pair l = IsToldTo canonical_pair l.pairs l.pair-index l.total
