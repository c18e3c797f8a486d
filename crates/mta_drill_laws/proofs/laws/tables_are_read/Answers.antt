use Rattle.mta_drill_laws.proofs.TablesRead.{both_are_read}
use Rattle.mta_drill_laws.proofs.laws.tables_are_read.Goals as goal

pub returns : goal.returns
returns c = both_are_read
