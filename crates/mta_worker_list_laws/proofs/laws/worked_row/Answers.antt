use Rattle.mta_worker_list_laws.proofs.Worked.{takes_one}
use Rattle.mta_worker_list_laws.proofs.laws.worked_row.Goals as goal

pub returns : goal.returns
returns c = takes_one
