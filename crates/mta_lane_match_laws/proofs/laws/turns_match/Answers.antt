use Rattle.mta_lane_match_laws.proofs.Turns.{turns_match}
use Rattle.mta_lane_match_laws.proofs.laws.turns_match.Goals as goal

pub returns : goal.returns
returns c = turns_match c.calls_know.ensures c.replies_match.ensures
