use Rattle.mta_lane_match_laws.proofs.Lanes.{lanes_stay}
use Rattle.mta_lane_match_laws.proofs.laws.lanes_stay.Goals as goal

pub returns : goal.returns
returns c = lanes_stay
