use Rattle.mta_name_text.proofs.MadeLaws.{pattern_found, pattern_read}
use Rattle.mta_name_text.proofs.laws.pattern_forms_are_what_is_read.Goals as goal

pub returns : goal.returns
returns c = λ text values. (pattern_found text values, pattern_read text values)
