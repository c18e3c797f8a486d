use Rattle.mta_lane_match_laws.proofs.Asking.{asks_are_of_phase}
use Rattle.mta_lane_match_laws.proofs.laws.asks_are_of_phase.Goals as goal

pub returns : goal.returns
returns c = asks_are_of_phase
