use Rattle.mta_tables.proofs.Wholes.{are_whole}
use Rattle.mta_tables.proofs.laws.tables_of_a_text_are_whole.Goals as goal

pub returns : goal.returns
returns c = are_whole
