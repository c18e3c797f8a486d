use Rattle.mta_lane_match_laws.proofs.Opened.{opens_match, accepts_match}
use Rattle.mta_lane_match_laws.proofs.laws.opened_lanes_match.Goals as goal

pub returns-clause-initiators : goal.returns-clause-initiators
returns-clause-initiators c = opens_match

pub returns-clause-responders : goal.returns-clause-responders
returns-clause-responders c = accepts_match
