use Rattle.mta_lane_match_laws.proofs.Turns.{calls_know}
use Rattle.mta_lane_match_laws.proofs.laws.calls_know.Goals as goal

pub returns : goal.returns
returns c = calls_know c.actions_know.ensures c.events_know.ensures
