use Rattle.mta_journal.proofs.Unique.{one_place}
use Rattle.mta_journal.proofs.law.one_place.Goals as goal

pub returns : goal.returns
returns c = one_place
