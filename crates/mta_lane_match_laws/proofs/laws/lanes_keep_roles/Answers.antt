use Rattle.mta_lane_match_laws.proofs.Staying.{lanes_keep_roles}
use Rattle.mta_lane_match_laws.proofs.laws.lanes_keep_roles.Goals as goal

pub returns : goal.returns
returns c = lanes_keep_roles c.steps_keep.ensures
