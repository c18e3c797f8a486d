-- What a report has of its item and of the subject message.
use Rattle.std.specs.Prelude.{◌≡◌, ℕ, List, [], Some, None}
use Rattle.mta_fields.specs.declared.domain.DomainFields.{DomainFields}
use Rattle.mta_names.specs.declared.attributes.Attributes.{Attributes}
use Rattle.mta_envelope.specs.declared.envelope.EnvelopeFields.{EnvelopeFields}
use Rattle.mta_report_recipient.specs.declared.reported.ReportedFields.{ReportedFields}
use Rattle.mta_report.specs.declared.fields.ReportFields.{ReportFields}
use Rattle.mta_procedures.specs.Reports.{report_id}
use Rattle.mta_rules.specs.declared.report.About.{About}

-- of the item of a number, about a message or a probe
abbrev pub about_of : DomainFields → ℕ → EnvelopeFields → About
about_of domain number e = record {
  id = report_id domain number;
  subject = e.id;
  content_kind = e.content_kind;
  content_id = e.content_id;
}

-- equal parts
pub record IsAbout (domain : DomainFields) (number : ℕ) (e : EnvelopeFields) (a : About) : Type 0 where
  pub id : a.id ≡ report_id domain number
  pub subject : a.subject ≡ e.id
  pub content_kind : a.content_kind ≡ e.content_kind
  pub content_id : a.content_id ≡ e.content_id

-- a report with these parts, and no others
abbrev pub told : About → Attributes → List ReportedFields → ReportFields
told a destination recipients = record {
  id = a.id;
  destination = destination;
  trace = [];
  extensions = [];
  subject = a.subject;
  subject_trace = None;
  eits = None;
  content_kind = Some a.content_kind;
  content_id = a.content_id;
  returned = None;
  additional = None;
  content_extensions = [];
  recipients = recipients;
}
