use Rattle.std.proofs.Common.{length}
use Rattle.mta_words.proofs.number.+small_from.Given as goal

abbrev pub decreases-small_from : goal.decreases-small_from
decreases-small_from l = length l.text.now
