use Rattle.mta_worker_list_laws.proofs.Linked.{links_are_run}
use Rattle.mta_worker_list_laws.proofs.laws.links_are_run.Goals as goal

pub returns : goal.returns
returns g c = links_are_run g.D.Disk.model g.C.Clock.model g.L.Link.model
