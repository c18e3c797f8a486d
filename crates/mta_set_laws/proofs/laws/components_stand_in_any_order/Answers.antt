use Rattle.mta_set_laws.proofs.InAnyOrder.{supplied_information_in_any_order}
use Rattle.mta_set_laws.proofs.InAnyOrder.{personal_names_in_any_order, deliveries_in_any_order}
use Rattle.mta_set_laws.proofs.InAnyOrder.{non_deliveries_in_any_order, last_traces_in_any_order}
use Rattle.mta_set_laws.proofs.InAnyOrder.{reported_recipients_in_any_order, report_envelopes_in_any_order}
use Rattle.mta_set_laws.proofs.InAnyOrder.{report_contents_in_any_order, recipients_in_any_order}
use Rattle.mta_set_laws.proofs.InAnyOrder.{envelopes_in_any_order}
use Rattle.mta_set_laws.proofs.laws.components_stand_in_any_order.Goals as goal

pub returns-clause-personal_names : goal.returns-clause-personal_names
returns-clause-personal_names c = personal_names_in_any_order

pub returns-clause-supplied_information : goal.returns-clause-supplied_information
returns-clause-supplied_information c = supplied_information_in_any_order

pub returns-clause-deliveries : goal.returns-clause-deliveries
returns-clause-deliveries c = deliveries_in_any_order

pub returns-clause-non_deliveries : goal.returns-clause-non_deliveries
returns-clause-non_deliveries c = non_deliveries_in_any_order

pub returns-clause-last_traces : goal.returns-clause-last_traces
returns-clause-last_traces c = last_traces_in_any_order

pub returns-clause-reported_recipients : goal.returns-clause-reported_recipients
returns-clause-reported_recipients c = reported_recipients_in_any_order

pub returns-clause-report_envelopes : goal.returns-clause-report_envelopes
returns-clause-report_envelopes c = report_envelopes_in_any_order

pub returns-clause-report_contents : goal.returns-clause-report_contents
returns-clause-report_contents c = report_contents_in_any_order

pub returns-clause-recipients : goal.returns-clause-recipients
returns-clause-recipients c = recipients_in_any_order

pub returns-clause-envelopes : goal.returns-clause-envelopes
returns-clause-envelopes c = envelopes_in_any_order
