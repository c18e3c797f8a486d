use Rattle.mta_worker_list_laws.proofs.Sides.{sides_agree}
use Rattle.mta_worker_list_laws.proofs.laws.sides_agree.Goals as goal

pub returns : goal.returns
returns g c = sides_agree g.L.Link.model
