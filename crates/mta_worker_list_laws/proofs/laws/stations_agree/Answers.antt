use Rattle.mta_worker_list_laws.proofs.Stations.{stations_agree}
use Rattle.mta_worker_list_laws.proofs.laws.stations_agree.Goals as goal

pub returns : goal.returns
returns g c = stations_agree g.L.Link.model
