use Rattle.mta_lane_match_laws.proofs.Staying.{given_up_stays}
use Rattle.mta_lane_match_laws.proofs.laws.given_up_stays.Goals as goal

pub returns : goal.returns
returns c = given_up_stays c.steps_keep.ensures
