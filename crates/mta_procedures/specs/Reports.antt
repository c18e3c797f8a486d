-- The reports that are made here (X.411, clause 14: report generation), field by field, and when one is made.
use Rattle.std.specs.Prelude.{ℕ, zero, suc, ◌+◌, ◌/◌, ◌%◌, List, [], ◌∷◌, ◌++◌, Option, Some}
use Rattle.std.specs.Prelude.{None, if◌then◌else◌, ◌&&◌, not}
use Rattle.std.specs.Option.{option_map}
use Rattle.mta_names.specs.declared.attributes.Attributes.{Attributes}
use Rattle.mta_fields.specs.declared.domain.DomainFields.{DomainFields}
use Rattle.mta_fields.specs.declared.identifier.MtsIdFields.{MtsIdFields}
use Rattle.mta_envelope_recipient.specs.declared.recipient.RecipientFields.{RecipientFields}
use Rattle.mta_envelope.specs.declared.envelope.EnvelopeFields.{EnvelopeFields}
use Rattle.mta_report_recipient.specs.declared.outcome.Outcome.{Outcome}
use Rattle.mta_report_recipient.specs.declared.outcome.Outcome.TheVariants.{Delivery, NonDelivery}
use Rattle.mta_report_recipient.specs.declared.reported.ReportedFields.{ReportedFields}
use Rattle.mta_report.specs.declared.fields.ReportFields.{ReportFields}
use Rattle.mta_tables.specs.declared.entry.MailList.{MailList}
use Rattle.mta_tables.specs.declared.hop.Hop.{Hop}
use Rattle.mta_tables.specs.Tables.{TablesValue}
use Rattle.mta_tables.specs.Hops.{best_hop}
use Rattle.mta_procedures.specs.declared.codes.TheConstants.{PUBLIC, DL}
use Rattle.mta_procedures.specs.Bits.{asks_report, reported_indicators}
use Rattle.mta_procedures.specs.Histories.{is_in_history}
use Rattle.mta_procedures.specs.Verdicts.{leads_to_list}
use Rattle.mta_procedures.specs.Walks.{report_walk}

-- ---- identifiers

-- so many decimal digits of a number, the last ones
abbrev pub digits : ℕ → ℕ → List ℕ
digits zero n = []
digits (suc k) n = digits k (n / 10) ++ (48 + n % 10) ∷ []

-- R and the number of the report's item in ten digits, in the own domain
unfoldable pub report_id : DomainFields → ℕ → MtsIdFields
report_id domain number = record { domain = domain; local = 82 ∷ digits 10 number }

-- ---- values

-- what is reported of a recipient of an item that arrived at a moment
abbrev pub reported_of : ℕ → RecipientFields → Outcome → ReportedFields
reported_of arrival r outcome = record {
  name = r.name;
  number = r.number;
  indicators = reported_indicators r.indicators;
  arrival = arrival;
  converted = None;
  outcome = outcome;
  intended = None;
  supplementary = None;
  extensions = [];
}

-- to a destination, as the item of a number
abbrev pub report_to : TablesValue → ℕ → ℕ → EnvelopeFields → RecipientFields → Outcome → Attributes
    → ReportFields
report_to t number arrival e r outcome destination = record {
  id = report_id t.domain number;
  destination = destination;
  trace = [];
  extensions = [];
  subject = e.id;
  subject_trace = None;
  eits = None;
  content_kind = Some e.content_kind;
  content_id = e.content_id;
  returned = None;
  additional = None;
  content_extensions = [];
  recipients = reported_of arrival r outcome ∷ [];
}

-- none where the walk ends
unfoldable pub report_of : TablesValue → ℕ → ℕ → EnvelopeFields → RecipientFields → Outcome
    → Option ReportFields
report_of t number arrival e r outcome = option_map (report_to t number arrival e r outcome) (report_walk t e)

-- ---- when a report is made

-- the type of user of a recipient
abbrev pub user_of : Hop → ℕ
user_of hop = if leads_to_list hop then DL else PUBLIC

-- of a recipient that is delivered to, or affirmed, where a report is asked
abbrev pub delivery_report : TablesValue → ℕ → ℕ → EnvelopeFields → RecipientFields → ℕ
    → Option ReportFields
delivery_report t number arrival e r moment =
    if asks_report r then report_of t number arrival e r (Delivery moment (user_of (best_hop t r.name))) else None

-- of a list that is expanded and keeps reports, where a report is asked; none of one that was expanded before
abbrev pub expansion_report :
    TablesValue → ℕ → ℕ → EnvelopeFields → RecipientFields → MailList → ℕ → Option ReportFields
expansion_report t number arrival e r l moment =
    if not l.back && (asks_report r && not (is_in_history l e))
    then report_of t number arrival e r (Delivery moment DL)
    else None

-- of a recipient that is not delivered to, whatever is asked
abbrev pub non_delivery_report :
    TablesValue → ℕ → ℕ → EnvelopeFields → RecipientFields → ℕ → Option ℕ → Option ReportFields
non_delivery_report t number arrival e r reason diagnostic =
    report_of t number arrival e r (NonDelivery reason diagnostic)
