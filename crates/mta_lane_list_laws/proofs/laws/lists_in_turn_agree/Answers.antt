use Rattle.std.proofs.Common.{length}
use Rattle.mta_lane_list_laws.proofs.Turns.{lists_in_turn_rise}
use Rattle.mta_lane_list_laws.proofs.laws.lists_in_turn_agree.Goals as goal

pub returns : goal.returns
returns c spells before added lane size window initiator ls allow good turns listed =
    let rises = lists_in_turn_rise lane (length before) ls turns in
    c.one_station_agrees.ensures spells before added lane size window initiator ls allow good
    (record { binds = listed.sent_binds; rise = rises.0; owned = listed.sends })
    (record { binds = listed.received_binds; rise = rises.1; owned = listed.receives })
