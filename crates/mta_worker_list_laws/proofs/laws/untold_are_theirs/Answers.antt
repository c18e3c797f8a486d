use Rattle.mta_worker_list_laws.proofs.Untold.{untold_are_theirs}
use Rattle.mta_worker_list_laws.proofs.laws.untold_are_theirs.Goals as goal

pub returns : goal.returns
returns g c = untold_are_theirs g.L.Link.model
