use Rattle.mta_drill_step_laws.proofs.First.{accept_leads_on, first_is_quiet, next_is_relayed, none_is_left}
use Rattle.mta_drill_step_laws.proofs.First.{sent_leads_on}
use Rattle.mta_drill_step_laws.proofs.laws.first_goes_on.Goals as goal

pub returns : goal.returns
returns c = record {
  quiet = first_is_quiet;
  next = next_is_relayed;
  left = none_is_left;
  accepted = accept_leads_on;
  sent = sent_leads_on;
}
