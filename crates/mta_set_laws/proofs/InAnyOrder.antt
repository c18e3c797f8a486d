-- Octets of the components of a value spell it in any order.
use Rattle.mta_names.specs.Persons.{MakesPerson, no_person}
use Rattle.mta_fields.specs.Traces.{MakesSupplied, no_supplied}
use Rattle.mta_report_recipient.specs.Deliveries.{MakesDelivery, no_delivery}
use Rattle.mta_report_recipient.specs.Failures.{MakesFailure, no_failure}
use Rattle.mta_report_recipient.specs.LastTraces.{MakesLast, no_last}
use Rattle.mta_report_recipient.specs.ReportedRecipients.{MakesReported, no_reported}
use Rattle.mta_report.specs.ReportEnvelopes.{MakesEnvelope as MakesReportEnvelope, no_envelope as no_report_envelope}
use Rattle.mta_report.specs.ReportContents.{MakesContent, no_content}
use Rattle.mta_envelope_recipient.specs.Recipients.{MakesRecipient, no_recipient}
use Rattle.mta_envelope.specs.Components.{MakesEnvelope, no_envelope}
use Rattle.mta_set_laws.specs.Laws.{SuppliedInformationInAnyOrder}
use Rattle.mta_set_laws.specs.Laws.{PersonalNamesInAnyOrder, DeliveriesInAnyOrder, NonDeliveriesInAnyOrder}
use Rattle.mta_set_laws.specs.Laws.{LastTracesInAnyOrder, ReportedRecipientsInAnyOrder, ReportEnvelopesInAnyOrder}
use Rattle.mta_set_laws.specs.Laws.{ReportContentsInAnyOrder, RecipientsInAnyOrder, EnvelopesInAnyOrder}
use Rattle.mta_set_laws.proofs.Orders.{spelled_in_any_order}
use Rattle.mta_set_laws.proofs.Persons.{persons_change}
use Rattle.mta_set_laws.proofs.Supplied.{supplied_change}
use Rattle.mta_set_laws.proofs.Deliveries.{deliveries_change}
use Rattle.mta_set_laws.proofs.Failures.{failures_change}
use Rattle.mta_set_laws.proofs.LastTraces.{last_traces_change}
use Rattle.mta_set_laws.proofs.ReportedRecipients.{reported_recipients_change}
use Rattle.mta_set_laws.proofs.ReportEnvelopes.{report_envelopes_change}
use Rattle.mta_set_laws.proofs.ReportContents.{report_contents_change}
use Rattle.mta_set_laws.proofs.Recipients.{recipients_change}
use Rattle.mta_set_laws.proofs.Envelopes.{envelopes_change}

pub personal_names_in_any_order : PersonalNamesInAnyOrder
personal_names_in_any_order depth c content v h ys o = record {
  is_constructed = h.is_constructed;
  parts = h.parts;
  spelled = spelled_in_any_order MakesPerson persons_change depth no_person h.parts content h.spelled ys o;
  surname = h.surname;
  value = h.value;
}

pub supplied_information_in_any_order : SuppliedInformationInAnyOrder
supplied_information_in_any_order depth c content v h ys o = record {
  is_constructed = h.is_constructed;
  parts = h.parts;
  spelled = spelled_in_any_order MakesSupplied supplied_change depth no_supplied h.parts content h.spelled ys o;
  arrival = h.arrival;
  action = h.action;
  value = h.value;
}

pub deliveries_in_any_order : DeliveriesInAnyOrder
deliveries_in_any_order depth c content v h ys o = record {
  is_constructed = h.is_constructed;
  parts = h.parts;
  spelled = spelled_in_any_order MakesDelivery deliveries_change depth no_delivery h.parts content h.spelled ys o;
  moment = h.moment;
  moment_is = h.moment_is;
  value = h.value;
}

pub non_deliveries_in_any_order : NonDeliveriesInAnyOrder
non_deliveries_in_any_order depth c content v h ys o = record {
  is_constructed = h.is_constructed;
  parts = h.parts;
  spelled = spelled_in_any_order MakesFailure failures_change depth no_failure h.parts content h.spelled ys o;
  reason = h.reason;
  reason_is = h.reason_is;
  value = h.value;
}

pub last_traces_in_any_order : LastTracesInAnyOrder
last_traces_in_any_order depth c content v h ys o = record {
  is_constructed = h.is_constructed;
  parts = h.parts;
  spelled = spelled_in_any_order MakesLast last_traces_change depth no_last h.parts content h.spelled ys o;
  arrival = h.arrival;
  arrival_is = h.arrival_is;
  outcome = h.outcome;
  outcome_is = h.outcome_is;
  value = h.value;
}

pub reported_recipients_in_any_order : ReportedRecipientsInAnyOrder
reported_recipients_in_any_order depth tag content v h ys o = record {
  is_tag_of = h.is_tag_of;
  parts = h.parts;
  spelled = spelled_in_any_order MakesReported reported_recipients_change depth no_reported h.parts content h.spelled ys
      o;
  name = h.name;
  name_is = h.name_is;
  number = h.number;
  number_is = h.number_is;
  indicators = h.indicators;
  indicators_is = h.indicators_is;
  last = h.last;
  last_is = h.last_is;
  value = h.value;
}

pub report_envelopes_in_any_order : ReportEnvelopesInAnyOrder
report_envelopes_in_any_order depth c content v h ys o = record {
  is_constructed = h.is_constructed;
  parts = h.parts;
  spelled = spelled_in_any_order MakesReportEnvelope report_envelopes_change depth no_report_envelope h.parts content
      h.spelled ys o;
  destination = h.destination;
  destination_is = h.destination_is;
  id = h.id;
  id_is = h.id_is;
  trace = h.trace;
  trace_is = h.trace_is;
  value = h.value;
}

pub report_contents_in_any_order : ReportContentsInAnyOrder
report_contents_in_any_order depth c content v h ys o = record {
  is_constructed = h.is_constructed;
  parts = h.parts;
  spelled = spelled_in_any_order MakesContent report_contents_change depth no_content h.parts content h.spelled ys o;
  subject = h.subject;
  subject_is = h.subject_is;
  recipients = h.recipients;
  recipients_is = h.recipients_is;
  value = h.value;
}

pub recipients_in_any_order : RecipientsInAnyOrder
recipients_in_any_order depth tag content v h ys o = record {
  is_tag_of = h.is_tag_of;
  parts = h.parts;
  spelled = spelled_in_any_order MakesRecipient recipients_change depth no_recipient h.parts content h.spelled ys o;
  name = h.name;
  number = h.number;
  indicators = h.indicators;
  value = h.value;
}

pub envelopes_in_any_order : EnvelopesInAnyOrder
envelopes_in_any_order probe depth c content v h ys o = record {
  is_constructed = h.is_constructed;
  parts = h.parts;
  spelled = spelled_in_any_order MakesEnvelope envelopes_change depth
      (no_envelope probe) h.parts content h.spelled ys o;
  originator = h.originator;
  id = h.id;
  content_kind = h.content_kind;
  trace = h.trace;
  recipients = h.recipients;
  value = h.value;
}
