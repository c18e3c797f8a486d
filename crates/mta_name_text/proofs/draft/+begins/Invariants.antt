use Rattle.std.proofs.Common.{length}
use Rattle.mta_name_text.proofs.draft.+begins.Given as goal

abbrev pub decreases-begins : goal.decreases-begins
decreases-begins l = length l.front.now
