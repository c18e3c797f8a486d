use Rattle.mta_transfer_laws.proofs.one_station_agrees.Goals as goal

pub returns : goal.returns
returns c spells before added lane size window initiator ls possible good sent received = record {
  ends_agree = c.sessions_agree.ensures spells before added lane size window initiator ls possible good;
  sending_order = c.owning_keeps_order.ensures spells before added lane size window initiator ls possible good sent;
  receiving_order = c.owning_keeps_receiving_order.ensures before added lane ls received;
}
