use Rattle.std.proofs.Common.{length}
use Rattle.mta_name_text.proofs.draft.+named_of.Given as goal

abbrev pub decreases-named_of : goal.decreases-named_of
decreases-named_of l = length l.keys.now
