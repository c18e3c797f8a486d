-- What was read of a report stands in the level of its place, so a report that was read is written so that it is read
-- again.
use Rattle.std.proofs.Common.{◌≡◌, ℕ, ◌+◌, ◌≤◌, Bool, true, List, sym, subst, arith}
use Rattle.std.specs.Prelude.{IfSome}
use Rattle.mta_ber.specs.Canon.{constructed}
use Rattle.mta_ber.specs.declared.tag.Tag.{Tag}
use Rattle.mta_ber.specs.Parts.{is_tag}
use Rattle.mta_ber.specs.Spelling.{Stands}
use Rattle.mta_names.specs.declared.attributes.Attributes.{Attributes}
use Rattle.mta_names.specs.Laws.{IsRawAt, KeepsName}
use Rattle.mta_names.specs.Values.{Each, IsName}
use Rattle.mta_names.proofs.Kept.{KeepsAt, spelled_kept, name_kept}
use Rattle.mta_names.proofs.NameLaws.{name_is}
use Rattle.mta_fields.proofs.Tagged.{none_tagged_begins}
use Rattle.mta_fields.specs.Laws.{IsWholeId, KeepsTrace, KeepsExtField}
use Rattle.mta_fields.proofs.Kept.{identifier_whole}
use Rattle.mta_envelope_common.proofs.Kept.{AreKeptTraces, trace_list_kept, AreKeptFields, ext_list_kept}
use Rattle.mta_envelope_common.proofs.Kept.{fields_or_none_kept}
use Rattle.mta_report_recipient.specs.Laws.{KeepsReported}
use Rattle.mta_report_recipient.proofs.ReportedKept.{AreKeptRecipients, reported_list_kept}
use Rattle.mta_report.specs.declared.content.ContentFields.{ContentFields}
use Rattle.mta_report.specs.declared.content.ContentPart.{ContentPart}
use Rattle.mta_report.specs.declared.content.ContentPart.TheVariants as contents
use Rattle.mta_report.specs.declared.content.ContentParts.{ContentParts}
use Rattle.mta_report.specs.declared.envelope.EnvelopeFields.{EnvelopeFields}
use Rattle.mta_report.specs.declared.envelope.EnvelopePart.{EnvelopePart}
use Rattle.mta_report.specs.declared.envelope.EnvelopePart.TheVariants as envelopes
use Rattle.mta_report.specs.declared.envelope.EnvelopeParts.{EnvelopeParts}
use Rattle.mta_report.specs.declared.fields.ReportFields.{ReportFields}
use Rattle.mta_report.specs.declared.reading.ReportPart.{ReportPart}
use Rattle.mta_report.specs.declared.reading.ReportPart.TheVariants as reports
use Rattle.mta_report.specs.declared.reading.ReportParts.{ReportParts}
use Rattle.mta_report.specs.Laws.{IsWholeReport, KeepsReport, ReadReportsAreKept, ReadReportsAreReadAgain}
use Rattle.mta_report.specs.Laws.{ReadWholeReportsAreReadAgain, NoReportBeginsAnother}
use Rattle.mta_report.specs.ReportContents.{is_content_tag, no_content, report_content, MakesContentPart, MakesContent}
use Rattle.mta_report.specs.ReportContents.{SpellsContent}
use Rattle.mta_report.specs.ReportEnvelopes.{no_envelope, report_envelope, MakesEnvelopePart, MakesEnvelope}
use Rattle.mta_report.specs.ReportEnvelopes.{SpellsEnvelope}
use Rattle.mta_report.specs.Reports.{no_report, report, report_in, MakesReportPart, MakesReport, SpellsReport}
use Rattle.mta_report.specs.ReportValues.{IsReport}
use Rattle.mta_report.proofs.ReportAgain.{reports_again, whole_reports_again}
use Rattle.mta_report.proofs.ReportLaws.{report_full, report_is}

-- ---- envelopes

abbrev IsKeptName : ℕ → Attributes → Type 0
IsKeptName depth n = KeepsName depth n × IsName n

record EnvelopeHolds (depth : ℕ) (s : EnvelopeParts) : Type 0 where
  destination : IfSome s.destination (IsKeptName depth)
  id : IfSome s.id IsWholeId
  trace : IfSome s.trace (AreKeptTraces (depth + 1))
  extensions : IfSome s.extensions (AreKeptFields (depth + 1))

envelope_part : (k : EnvelopePart) (depth : ℕ) (s t : EnvelopeParts) (tag : Tag) (content octets : List ℕ)
    → depth + 3 ≤ 16 → MakesEnvelopePart k depth s tag content octets t → EnvelopeHolds depth s → EnvelopeHolds depth t
envelope_part envelopes.Destination depth s t tag content octets d m h =
    subst (EnvelopeHolds depth) (sym m.after_is)
    (record {
      destination = (
        name_kept depth tag.constructed content m.value m.value_spelled,
        name_is depth tag.constructed content m.value m.value_spelled,
      );
      id = h.id;
      trace = h.trace;
      extensions =
          h.extensions;
    })
envelope_part envelopes.Identifier depth s t tag content octets d m h =
    subst (EnvelopeHolds depth) (sym m.after_is)
    (record {
      destination = h.destination;
      id = identifier_whole depth tag content m.value m.value_spelled;
      trace =
          h.trace;
      extensions = h.extensions;
    })
envelope_part envelopes.Trace depth s t tag content octets d m h =
    subst (EnvelopeHolds depth) (sym m.after_is)
    (record {
      destination = h.destination;
      id = h.id;
      trace =
          trace_list_kept depth tag.constructed content m.value m.value_spelled;
      extensions = h.extensions;
    })
envelope_part envelopes.Extensions depth s t tag content octets d m h =
    subst (EnvelopeHolds depth) (sym m.after_is)
    (record {
      destination = h.destination;
      id = h.id;
      trace = h.trace;
      extensions =
          ext_list_kept depth tag.constructed content m.value m.value_spelled d;
    })

envelope_more : (depth : ℕ) → depth + 3 ≤ 16 → KeepsAt MakesEnvelope (EnvelopeHolds depth) depth
envelope_more depth d s t tag content octets stands m h = envelope_part m.part depth s t tag content octets d m.made h

-- an envelope whose components stand in the level `depth`
record IsKeptEnvelope (depth : ℕ) (v : EnvelopeFields) : Type 0 where
  destination : IsKeptName depth v.destination
  id : IsWholeId v.id
  trace : AreKeptTraces (depth + 1) v.trace
  extensions : AreKeptFields (depth + 1) v.extensions

envelope_kept : (depth : ℕ) (c : Bool) (content : List ℕ) (v : EnvelopeFields) → SpellsEnvelope depth c content v
    → depth + 4 ≤ 16 → IsKeptEnvelope (depth + 1) v
envelope_kept depth c content v h d =
    let k = spelled_kept MakesEnvelope (EnvelopeHolds (depth + 1)) depth
    (envelope_more (depth + 1) (omega arith)) no_envelope h.parts content h.spelled
    (record { destination = tt; id = tt; trace = tt; extensions = tt }) in
    let destination : IsKeptName (depth + 1) h.destination =
    subst (λ o. IfSome o (IsKeptName (depth + 1))) h.destination_is k.destination in
    let id : IsWholeId h.id = subst (λ o. IfSome o IsWholeId) h.id_is k.id in
    let trace : AreKeptTraces (depth + 1 + 1) h.trace =
    subst (λ o. IfSome o (AreKeptTraces (depth + 1 + 1))) h.trace_is k.trace in
    subst (λ (x : EnvelopeFields). IsKeptEnvelope (depth + 1) x) {x =
    report_envelope h.destination h.id h.trace h.parts} (sym h.value) (record {
      destination = destination;
      id = id;
      trace = trace;
      extensions = fields_or_none_kept (depth + 1 + 1) h.parts.extensions k.extensions;
    })

-- ---- contents

-- what the parts of a content keep, whose components stand in the level `depth`
record ContentHolds (depth : ℕ) (s : ContentParts) : Type 0 where
  subject : IfSome s.subject IsWholeId
  eits : IfSome s.eits (IsRawAt depth 1 5)
  subject_trace : IfSome s.subject_trace (IsRawAt depth 1 9)
  recipients : IfSome s.recipients (AreKeptRecipients (depth + 1))
  returned : IfSome s.returned (IsRawAt depth 2 1)
  additional : IfSome s.additional (IsRawAt depth 2 2)
  extensions : IfSome s.extensions (AreKeptFields (depth + 1))

-- what the parts of a content keep, one of them behind another
holds_content : {depth : ℕ} {s : ContentParts} → IfSome s.subject IsWholeId
    → IfSome s.eits (IsRawAt depth 1 5) → IfSome s.subject_trace (IsRawAt depth 1 9)
    → IfSome s.recipients (AreKeptRecipients (depth + 1)) → IfSome s.returned (IsRawAt depth 2 1)
    → IfSome s.additional (IsRawAt depth 2 2) → IfSome s.extensions (AreKeptFields (depth + 1))
    → ContentHolds depth s
holds_content subject eits subject_trace recipients returned additional extensions =
    record {
      subject = subject;
      eits = eits;
      subject_trace = subject_trace;
      recipients = recipients;
      returned = returned;
      additional = additional;
      extensions = extensions;
    }

raw_is : (depth class number : ℕ) (tag : Tag) (content octets x : List ℕ) → is_tag class number tag ≡ true
    → Stands depth tag content octets → x ≡ octets → IsRawAt depth class number x
raw_is depth class number tag content octets x is stands e =
    subst (IsRawAt depth class number) (sym e)
    (record { tag = tag; content = content; is_tag_of = is; stands = stands })

content_part : (k : ContentPart) (depth : ℕ) (s t : ContentParts) (tag : Tag) (content octets : List ℕ) → depth + 5 ≤ 16
    → is_content_tag k tag ≡ true → Stands depth tag content octets → MakesContentPart k depth s tag content octets t
    → ContentHolds depth s → ContentHolds depth t
content_part contents.Subject depth s t tag content octets d is stands m h =
    subst (ContentHolds depth) (sym m.after_is)
    (holds_content (identifier_whole depth tag content m.value m.value_spelled) h.eits h.subject_trace h.recipients
    h.returned h.additional h.extensions)
content_part contents.Eits depth s t tag content octets d is stands m h =
    subst (ContentHolds depth) (sym m.after_is)
    (holds_content h.subject (raw_is depth 1 5 tag content octets m.value is stands m.value_spelled) h.subject_trace
    h.recipients h.returned h.additional h.extensions)
content_part contents.ContentType depth s t tag content octets d is stands m h =
    subst (ContentHolds depth) (sym m.after_is)
    (holds_content h.subject h.eits h.subject_trace h.recipients h.returned h.additional h.extensions)
content_part contents.SubjectTrace depth s t tag content octets d is stands m h =
    subst (ContentHolds depth) (sym m.after_is)
    (holds_content h.subject h.eits (raw_is depth 1 9 tag content octets m.value is stands m.value_spelled)
    h.recipients h.returned h.additional h.extensions)
content_part contents.ContentId depth s t tag content octets d is stands m h =
    subst (ContentHolds depth) (sym m.after_is)
    (holds_content h.subject h.eits h.subject_trace h.recipients h.returned h.additional h.extensions)
content_part contents.Recipients depth s t tag content octets d is stands m h =
    subst (ContentHolds depth) (sym m.after_is)
    (holds_content h.subject h.eits h.subject_trace
    (reported_list_kept depth tag.constructed content m.value m.value_spelled d) h.returned h.additional
    h.extensions)
content_part contents.Returned depth s t tag content octets d is stands m h =
    subst (ContentHolds depth) (sym m.after_is)
    (holds_content h.subject h.eits h.subject_trace h.recipients
    (raw_is depth 2 1 tag content octets m.value is stands m.value_spelled) h.additional h.extensions)
content_part contents.Additional depth s t tag content octets d is stands m h =
    subst (ContentHolds depth) (sym m.after_is)
    (holds_content h.subject h.eits h.subject_trace h.recipients h.returned
    (raw_is depth 2 2 tag content octets m.value is stands m.value_spelled) h.extensions)
content_part contents.Extensions depth s t tag content octets d is stands m h =
    subst (ContentHolds depth) (sym m.after_is)
    (holds_content h.subject h.eits h.subject_trace h.recipients h.returned h.additional
    (ext_list_kept depth tag.constructed content m.value m.value_spelled (omega arith)))

content_more : (depth : ℕ) → depth + 5 ≤ 16 → KeepsAt MakesContent (ContentHolds depth) depth
content_more depth d s t tag content octets stands m h =
    content_part m.part depth s t tag content octets d m.is_tag_of stands m.made h

-- a content whose components stand in the level `depth`
record IsKeptContent (depth : ℕ) (v : ContentFields) : Type 0 where
  subject : IsWholeId v.subject
  eits : IfSome v.eits (IsRawAt depth 1 5)
  subject_trace : IfSome v.subject_trace (IsRawAt depth 1 9)
  recipients : AreKeptRecipients (depth + 1) v.recipients
  returned : IfSome v.returned (IsRawAt depth 2 1)
  additional : IfSome v.additional (IsRawAt depth 2 2)
  extensions : AreKeptFields (depth + 1) v.extensions

content_kept : (depth : ℕ) (c : Bool) (content : List ℕ) (v : ContentFields) → SpellsContent depth c content v
    → depth + 6 ≤ 16 → IsKeptContent (depth + 1) v
content_kept depth c content v h d =
    let k = spelled_kept MakesContent (ContentHolds (depth + 1)) depth
    (content_more (depth + 1) (omega arith)) no_content h.parts content h.spelled
    (record {
      subject = tt;
      eits = tt;
      subject_trace = tt;
      recipients = tt;
      returned = tt;
      additional = tt;
      extensions = tt;
    }) in
    let subject : IsWholeId h.subject = subst (λ o. IfSome o IsWholeId) h.subject_is k.subject in
    let recipients : AreKeptRecipients (depth + 1 + 1) h.recipients =
    subst (λ o. IfSome o (AreKeptRecipients (depth + 1 + 1))) h.recipients_is k.recipients in
    subst (λ (x : ContentFields). IsKeptContent (depth + 1) x) {x = report_content h.subject h.recipients h.parts}
    (sym h.value) (record {
      subject = subject;
      eits = k.eits;
      subject_trace = k.subject_trace;
      recipients = recipients;
      returned = k.returned;
      additional = k.additional;
      extensions = fields_or_none_kept (depth + 1 + 1) h.parts.extensions k.extensions;
    })

-- ---- reports

-- the SETs of a report stand in the level `depth`
record Holds (depth : ℕ) (s : ReportParts) : Type 0 where
  envelope : IfSome s.envelope (IsKeptEnvelope (depth + 1))
  content : IfSome s.content (IsKeptContent (depth + 1))

report_part : (k : ReportPart) (depth : ℕ) (s t : ReportParts) (tag : Tag) (content : List ℕ) → depth + 6 ≤ 16
    → MakesReportPart k depth s tag content t → Holds depth s → Holds depth t
report_part reports.Envelope depth s t tag content d m h =
    subst (Holds depth) (sym m.after_is)
    (record {
      envelope = envelope_kept depth tag.constructed content m.value m.value_spelled (omega arith);
      content =
          h.content;
    })
report_part reports.Content depth s t tag content d m h =
    subst (Holds depth) (sym m.after_is)
    (record { envelope = h.envelope; content = content_kept depth tag.constructed content m.value m.value_spelled d })

report_more : (depth : ℕ) → depth + 6 ≤ 16 → KeepsAt MakesReport (Holds depth) depth
report_more depth d s t tag content octets stands m h = report_part m.part depth s t tag content d m.made h

pub report_kept : ReadReportsAreKept
report_kept depth c content v h d =
    let k = spelled_kept MakesReport (Holds (depth + 1)) depth
    (report_more (depth + 1) (omega arith)) no_report h.parts content h.spelled
    (record { envelope = tt; content = tt }) in
    let e : IsKeptEnvelope (depth + 1 + 1) h.the_envelope =
    subst (λ o. IfSome o (IsKeptEnvelope (depth + 1 + 1))) h.envelope_is k.envelope in
    let n : IsKeptContent (depth + 1 + 1) h.the_content =
    subst (λ o. IfSome o (IsKeptContent (depth + 1 + 1))) h.content_is k.content in
    let made = report h.the_envelope h.the_content in
    let two : depth + 1 + 1 ≡ depth + 2 = omega arith in
    let three : depth + 1 + 1 + 1 ≡ depth + 3 = omega arith in
    subst (λ (x : ReportFields). KeepsReport depth x × IsWholeReport x) {x = made} (sym h.value) (
      record {
        destination = subst (λ l. KeepsName l made.destination) two e.destination.0;
        trace = subst (λ l. Each (KeepsTrace l) made.trace) three e.trace.kept;
        extensions = subst (λ l. Each (KeepsExtField l) made.extensions) three e.extensions.kept;
        subject_trace = subst (λ l. IfSome made.subject_trace (IsRawAt l 1 9)) two n.subject_trace;
        eits = subst (λ l. IfSome made.eits (IsRawAt l 1 5)) two n.eits;
        returned = subst (λ l. IfSome made.returned (IsRawAt l 2 1)) two n.returned;
        additional = subst (λ l. IfSome made.additional (IsRawAt l 2 2)) two n.additional;
        content_extensions = subst (λ l. Each (KeepsExtField l) made.content_extensions) three n.extensions.kept;
        recipients = subst (λ l. Each (KeepsReported l) made.recipients) three n.recipients.kept;
      },
      record {
        id = e.id;
        destination = e.destination.1;
        trace = e.trace.traces;
        extensions = e.extensions.fields;
        subject = n.subject;
        content_extensions = n.extensions.fields;
        recipients = n.recipients.recipients;
        report = subst IsReport h.value (report_is depth c content v h);
      },
    )

pub read_reports_again : ReadReportsAreReadAgain
read_reports_again depth c content v h d = let k = report_kept depth c content v h (omega arith) in
    reports_again depth v k.1 k.0 d

pub read_whole_reports_again : ReadWholeReportsAreReadAgain
read_whole_reports_again content v more at h short = let k =
    report_kept 1 (constructed 2 1) content v h (omega arith) in whole_reports_again v more at k.1 k.0 short

pub no_report_begins : NoReportBeginsAnother
no_report_begins = none_tagged_begins report_in SpellsReport (λ v p d h. report_full v p h)
