use Rattle.mta_lane_match_laws.proofs.Events.{events_know}
use Rattle.mta_lane_match_laws.proofs.laws.events_know.Goals as goal

pub returns : goal.returns
returns c = events_know c.units_keep_halves.ensures.sending c.units_keep_halves.ensures.receiving
