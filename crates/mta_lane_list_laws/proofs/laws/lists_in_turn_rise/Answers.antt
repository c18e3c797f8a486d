use Rattle.mta_lane_list_laws.proofs.Turns.{lists_in_turn_rise}
use Rattle.mta_lane_list_laws.proofs.laws.lists_in_turn_rise.Goals as goal

pub returns : goal.returns
returns c = lists_in_turn_rise
