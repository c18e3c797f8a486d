use Rattle.mta_journal.proofs.Unique.{one_area}
use Rattle.mta_journal.proofs.law.one_area.Goals as goal

pub returns : goal.returns
returns c = one_area
