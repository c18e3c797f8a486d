use Rattle.mta_ber.proofs.RowLaws.{one_spelling}
use Rattle.mta_ber.proofs.laws.no_spelling_begins_another.Goals as goal

pub returns : goal.returns
returns c = one_spelling
