use Rattle.mta_lane_match_laws.proofs.Own.{own_steps_match}
use Rattle.mta_lane_match_laws.proofs.laws.own_steps_match.Goals as goal

pub returns : goal.returns
returns c = own_steps_match
