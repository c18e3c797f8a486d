use Rattle.mta_journal.proofs.Unique.{not_both}
use Rattle.mta_journal.proofs.law.not_both.Goals as goal

pub returns : goal.returns
returns c = not_both
