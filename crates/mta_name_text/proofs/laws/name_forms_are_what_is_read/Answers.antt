use Rattle.mta_name_text.proofs.MadeLaws.{name_found, name_read}
use Rattle.mta_name_text.proofs.laws.name_forms_are_what_is_read.Goals as goal

pub returns : goal.returns
returns c = λ text n. (name_found text n, name_read text n)
