use Rattle.mta_worker_list_laws.proofs.AllGood.{all_are_good}
use Rattle.mta_worker_list_laws.proofs.laws.all_are_good.Goals as goal

pub returns : goal.returns
returns g c =
    all_are_good c.lists_are_good.ensures g.D.Disk.model g.C.Clock.model g.L.Link.model
    g.S.Station.model
