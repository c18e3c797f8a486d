use Rattle.mta_drill_step_laws.proofs.States.{accepted_is_one_more, complete_is_one_more, delivered_is_one_more}
use Rattle.mta_drill_step_laws.proofs.States.{first_begins, idle_is_free, none_is_free, second_begins, sent_is_one_more}
use Rattle.mta_drill_step_laws.proofs.States.{still_steps, transfer_is_copy}
use Rattle.mta_drill_step_laws.proofs.laws.steps_lead_on.Goals as goal

pub returns : goal.returns
returns c = record {
  still = still_steps;
  first = first_begins;
  second = second_begins;
  accepted = accepted_is_one_more;
  copy = transfer_is_copy;
  sent = sent_is_one_more;
  completed = complete_is_one_more;
  delivered = delivered_is_one_more;
  idle = idle_is_free;
  none = none_is_free;
}
