use Rattle.mta_lane_match_laws.proofs.Generations.{generations_begin_once}
use Rattle.mta_lane_match_laws.proofs.laws.generations_begin_once.Goals as goal

pub returns : goal.returns
returns c = generations_begin_once
