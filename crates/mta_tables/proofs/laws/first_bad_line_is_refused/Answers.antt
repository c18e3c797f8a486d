use Rattle.mta_tables.proofs.Grammars.{bad_found, bad_read}
use Rattle.mta_tables.proofs.laws.first_bad_line_is_refused.Goals as goal

pub returns : goal.returns
returns c = λ text number kind. (bad_found text number kind, bad_read text number kind)
