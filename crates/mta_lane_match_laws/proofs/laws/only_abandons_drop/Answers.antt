use Rattle.mta_lane_match_laws.proofs.Staying.{only_abandons_drop}
use Rattle.mta_lane_match_laws.proofs.laws.only_abandons_drop.Goals as goal

pub returns : goal.returns
returns c = only_abandons_drop c.steps_keep.ensures
