use Rattle.mta_lane_match_laws.proofs.Others.{others_keep_all}
use Rattle.mta_lane_match_laws.proofs.laws.others_keep_all.Goals as goal

pub returns : goal.returns
returns c = others_keep_all c.others_keep.ensures c.steps_keep.ensures
