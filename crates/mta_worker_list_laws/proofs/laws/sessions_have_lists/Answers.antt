use Rattle.mta_worker_list_laws.proofs.Good.{sessions_have_lists}
use Rattle.mta_worker_list_laws.proofs.laws.sessions_have_lists.Goals as goal

pub returns : goal.returns
returns c = sessions_have_lists
