use Rattle.mta_lane_match_laws.proofs.Others.{others_keep}
use Rattle.mta_lane_match_laws.proofs.laws.others_keep.Goals as goal

pub returns : goal.returns
returns c = others_keep
