use Rattle.mta_worker_list_laws.proofs.All.{all_have_parts}
use Rattle.mta_worker_list_laws.proofs.laws.all_have_parts.Goals as goal

pub returns : goal.returns
returns g c = all_have_parts g.D.Disk.model g.C.Clock.model g.L.Link.model g.S.Station.model
