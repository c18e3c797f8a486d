use Rattle.mta_procedures.proofs.ToldLaws.{lists_writable}
use Rattle.mta_procedures.proofs.ends.lists_of_tables_are_writable.Goals as goal

pub returns : goal.returns
returns c = lists_writable
