use Rattle.mta_lane_list_laws.proofs.Between.{lists_stand_between}
use Rattle.mta_lane_list_laws.proofs.laws.lists_stand_between.Goals as goal

pub returns : goal.returns
returns c = lists_stand_between
