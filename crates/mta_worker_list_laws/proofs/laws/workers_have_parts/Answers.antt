use Rattle.mta_worker_list_laws.proofs.Workers.{workers_have_parts}
use Rattle.mta_worker_list_laws.proofs.laws.workers_have_parts.Goals as goal

pub returns : goal.returns
returns g c = workers_have_parts g.D.Disk.model g.C.Clock.model g.L.Link.model g.S.Station.model
