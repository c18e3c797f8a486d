use Rattle.mta_journal.proofs.Unique.{one_list}
use Rattle.mta_journal.proofs.law.one_list.Goals as goal

pub returns : goal.returns
returns c = one_list
