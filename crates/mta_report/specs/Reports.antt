-- Reports (X.411, Report): a SEQUENCE of the SET that is the envelope and the SET that is the content.
use Rattle.std.specs.Prelude.{◌≡◌, ℕ, ◌<◌, ◌≤◌, Bool, true, List, ◌++◌, Option, Some}
use Rattle.std.specs.Prelude.{None, is_some, Result, Ok, ◌==◌, ◌&&◌, if◌then◌else◌}
use Rattle.mta_ber.specs.declared.fault.Fault.{Fault}
use Rattle.mta_ber.specs.declared.fault.Kind.TheVariants.{BadTag}
use Rattle.mta_ber.specs.declared.tag.Tag.{Tag}
use Rattle.mta_ber.specs.Canon.{element, constructed}
use Rattle.mta_ber.specs.Components.{SpellsComponents}
use Rattle.mta_ber.specs.Element.{Part}
use Rattle.mta_ber.specs.Forms.{is_constructed_tag, components_under}
use Rattle.mta_ber.specs.Head.{◌>>=◌, fault}
use Rattle.mta_ber.specs.Parts.{in_order, required}
use Rattle.mta_names.specs.Strings.{Puts}
use Rattle.mta_report.specs.declared.envelope.EnvelopeFields.{EnvelopeFields}
use Rattle.mta_report.specs.declared.content.ContentFields.{ContentFields}
use Rattle.mta_report.specs.declared.fields.ReportFields.{ReportFields}
use Rattle.mta_report.specs.declared.reading.ReportPart.{ReportPart}
use Rattle.mta_report.specs.declared.reading.ReportPart.TheVariants.{Envelope, Content}
use Rattle.mta_report.specs.declared.reading.ReportParts.{ReportParts}
use Rattle.mta_report.specs.ReportEnvelopes.{envelope_in, SpellsEnvelope, canonical_envelope}
use Rattle.mta_report.specs.ReportContents.{content_in, SpellsContent, canonical_content}
use Rattle.mta_report_recipient.specs.ReportedRecipients.{is_set}

-- the first SET is the envelope, and one behind it the content
abbrev pub report_part_of : ℕ → Tag → Option ReportPart
report_part_of last t = if is_set t then (if last == 0 then Some Envelope else Some Content) else None

abbrev pub report_place : ReportPart → ℕ
report_place Envelope = 1
report_place Content = 2

-- the envelope has to stand before the content
abbrev pub report_needed : ReportPart → ℕ
report_needed Envelope = 0
report_needed Content = 1

abbrev pub with_envelope : ReportParts → EnvelopeFields → ReportParts
with_envelope s x = record s { last = 1; envelope = Some x }

abbrev pub with_content : ReportParts → ContentFields → ReportParts
with_content s x = record s { last = 2; content = Some x }

abbrev pub report_part_in : ReportPart → ReportParts → Part → Result ReportParts Fault
report_part_in Envelope s p = envelope_in p >>= λ x. Ok (with_envelope s x)
report_part_in Content s p = content_in p >>= λ x. Ok (with_content s x)

abbrev pub report_step_of : Option ReportPart → ReportParts → Part → Result ReportParts Fault
report_step_of None s p = fault p.at BadTag
report_step_of (Some k) s p = in_order s.last (report_needed k) (report_place k) p.at (report_part_in k s p)

unfoldable pub report_step : ReportParts → Part → Result ReportParts Fault
report_step s p = report_step_of (report_part_of s.last p.tag) s p

abbrev pub no_report : ReportParts
no_report = record { last = 0; envelope = None; content = None }

abbrev pub report : EnvelopeFields → ContentFields → ReportFields
report envelope content = record {
  id = envelope.id;
  destination = envelope.destination;
  trace = envelope.trace;
  extensions = envelope.extensions;
  subject = content.subject;
  subject_trace = content.subject_trace;
  eits = content.eits;
  content_kind = content.content_kind;
  content_id = content.content_id;
  returned = content.returned;
  additional = content.additional;
  content_extensions = content.extensions;
  recipients = content.recipients;
}

-- whether the envelope and the content are there
abbrev pub report_complete : ReportParts → Bool
report_complete s = is_some s.envelope && is_some s.content

-- the envelope and the content are there
abbrev pub report_from : ReportParts → ℕ → Result ReportFields Fault
report_from s at = required s.envelope at >>= λ envelope. required s.content at >>= λ content. Ok
    (report envelope content)

unfoldable pub report_in : Part → Result ReportFields Fault
report_in p = components_under 2 1 report_step no_report p >>= λ s. report_from s p.at

-- ---- what spells a report

abbrev pub MakesReportPart : ReportPart → ℕ → ReportParts → Tag → List ℕ → ReportParts → Type 0
MakesReportPart Envelope depth s tag content after =
    Puts (SpellsEnvelope depth tag.constructed content) (with_envelope s) after
MakesReportPart Content depth s tag content after =
    Puts (SpellsContent depth tag.constructed content) (with_content s) after

pub record MakesReport (depth : ℕ) (before : ReportParts) (tag : Tag) (content octets : List ℕ)
    (after : ReportParts) : Type 0 where
  pub is_set_tag : is_set tag ≡ true
  pub part : ReportPart
  pub needed : report_needed part ≤ before.last
  pub behind : before.last < report_place part
  pub made : MakesReportPart part depth before tag content after

-- a SEQUENCE of an envelope and a content
pub record SpellsReport (depth : ℕ) (tag : Tag) (content : List ℕ) (v : ReportFields) : Type 0 where
  pub is_tag_of : is_constructed_tag 2 1 tag ≡ true
  pub parts : ReportParts
  pub spelled : SpellsComponents MakesReport depth no_report content parts
  pub the_envelope : EnvelopeFields
  pub envelope_is : parts.envelope ≡ Some the_envelope
  pub the_content : ContentFields
  pub content_is : parts.content ≡ Some the_content
  pub value : v ≡ report the_envelope the_content

-- ---- the one spelling that is written, under [1]

unfoldable pub canonical_report : ReportFields → List ℕ
canonical_report v = element (constructed 2 1) (canonical_envelope v ++ canonical_content v)
