use Rattle.mta_drill_step_laws.proofs.Second.{all_are_delivered, complete_leads_on, deliver_leads_on, next_is_delivered}
use Rattle.mta_drill_step_laws.proofs.laws.second_goes_on.Goals as goal

pub returns : goal.returns
returns c = record {
  next = next_is_delivered;
  all = all_are_delivered;
  completed = complete_leads_on;
  delivered = deliver_leads_on;
}
