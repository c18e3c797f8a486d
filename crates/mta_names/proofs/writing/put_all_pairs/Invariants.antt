use Rattle.mta_names.specs.Lists.{canonical_pair}
use Rattle.mta_names.proofs.Written.{Left}
use Rattle.mta_names.proofs.writing.put_all_pairs.Given as goal

abbrev pub invariant-loop-pair : goal.invariant-loop-pair
invariant-loop-pair l = Left canonical_pair l.fn.w l.pairs l.pair-index l.w
