use Rattle.mta_worker_list_laws.proofs.Good.{sessions_good}
use Rattle.mta_worker_list_laws.proofs.laws.sessions_are_good.Goals as goal

pub returns : goal.returns
returns c = sessions_good c.lists_are_good.ensures
