use Rattle.mta_tables.proofs.GoesOn.{goes_on}
use Rattle.mta_tables.proofs.laws.a_text_goes_on_behind_lines_that_can_stand.Goals as goal

pub returns : goal.returns
returns c = goes_on
