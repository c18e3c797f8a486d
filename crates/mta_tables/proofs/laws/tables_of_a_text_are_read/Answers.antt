use Rattle.mta_tables.proofs.Grammars.{tables_found, tables_read}
use Rattle.mta_tables.proofs.laws.tables_of_a_text_are_read.Goals as goal

pub returns : goal.returns
returns c = λ text t. (tables_found text t, tables_read text t)
