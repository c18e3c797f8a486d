use Rattle.mta_name_text.proofs.FormsTold.{forms_told}
use Rattle.mta_name_text.proofs.laws.text_forms_are_what_is_written.Goals as goal

pub returns : goal.returns
returns c = forms_told
