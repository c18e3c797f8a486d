use Rattle.std.proofs.Common.{length}
use Rattle.mta_name_digest.proofs.digest.+texts_digest.Given as goal

abbrev pub decreases-texts_digest : goal.decreases-texts_digest
decreases-texts_digest l = length l.texts.now
