use Rattle.mta_lane_list_laws.proofs.Called.{called_lanes_agree}
use Rattle.mta_lane_list_laws.proofs.laws.called_lanes_agree.Goals as goal

pub returns : goal.returns
returns g c =
    called_lanes_agree c.lists_are_good.ensures c.sessions_agree.ensures
    c.one_station_agrees.ensures g.L.Link.model
