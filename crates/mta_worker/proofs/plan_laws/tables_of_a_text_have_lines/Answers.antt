use Rattle.mta_worker.proofs.Entries.{have_lines}
use Rattle.mta_worker.proofs.plan_laws.tables_of_a_text_have_lines.Goals as goal

pub returns : goal.returns
returns c = λ text t e. have_lines text t ((c.tables_of_a_text_are_read.ensures text t).0 e)
