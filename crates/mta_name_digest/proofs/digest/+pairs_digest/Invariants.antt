use Rattle.std.proofs.Common.{length}
use Rattle.mta_name_digest.proofs.digest.+pairs_digest.Given as goal

abbrev pub decreases-pairs_digest : goal.decreases-pairs_digest
decreases-pairs_digest l = length l.pairs.now
