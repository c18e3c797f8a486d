use Rattle.mta_lane_list_laws.proofs.Lanes.{lanes_agree}
use Rattle.mta_lane_list_laws.proofs.laws.lanes_agree.Goals as goal

pub returns : goal.returns
returns g c =
    lanes_agree c.lists_are_good.ensures c.sessions_agree.ensures
    c.one_station_agrees.ensures g.L.Link.model
