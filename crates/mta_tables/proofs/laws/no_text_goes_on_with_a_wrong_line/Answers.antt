use Rattle.mta_tables.proofs.Grammars.{wrong_ends}
use Rattle.mta_tables.proofs.laws.no_text_goes_on_with_a_wrong_line.Goals as goal

pub returns : goal.returns
returns c = wrong_ends
