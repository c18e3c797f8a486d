use Rattle.mta_worker_list_laws.proofs.Agreeing.{ends_agree}
use Rattle.mta_worker_list_laws.proofs.laws.ends_agree.Goals as goal

pub returns : goal.returns
returns g c =
    ends_agree c.lists_are_good.ensures c.sessions_agree.ensures g.D.Disk.model
    g.C.Clock.model g.L.Link.model g.S.Station.model
