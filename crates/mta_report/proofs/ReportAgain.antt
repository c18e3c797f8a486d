-- Reports that are written are spelled so, and are read again.
use Rattle.std.proofs.Common.{◌≡◌, ℕ, ◌+◌, ◌≤◌, ◌<◌, ◌^◌, true, false, List, [], ◌∷◌, ◌++◌, length, Option, Some, None}
use Rattle.std.proofs.Common.{refl, sym, ap, subst, ◌∙◌, append_assoc, arith, pos}
use Rattle.std.specs.Prelude.{IfSome}
use Rattle.std.specs.List.{flat_map}
use Rattle.mta_ber.specs.declared.text.TextClass.TheVariants.{Printable}
use Rattle.mta_ber.specs.Canon.{IsTag, element, constructed, primitive, optional}
use Rattle.mta_ber.specs.Components.{IsComponent}
use Rattle.mta_ber.specs.Contents.{int_content}
use Rattle.mta_ber.specs.Head.{◌>>=◌}
use Rattle.mta_ber.specs.Laws.{with_rest, beside}
use Rattle.mta_ber.proofs.CanonLaws.{lent}
use Rattle.mta_ber.proofs.RoundTrip.{first_again}
use Rattle.mta_names.specs.declared.attributes.Attributes.{Attributes}
use Rattle.mta_names.specs.Laws.{IsRawAt, KeepsName}
use Rattle.mta_names.specs.Names.{SpellsName, canonical_name, name_content, kept}
use Rattle.mta_names.specs.Values.{Each}
use Rattle.mta_names.proofs.Again.{low_tag, text_spelled}
use Rattle.mta_names.proofs.NameAgain.{name_spelled}
use Rattle.mta_names.proofs.Rows.{puts, component, short_inside, short_front, short_back, row_more, row_last}
use Rattle.mta_names.proofs.Rows.{row_spelled}
use Rattle.mta_fields.proofs.Tagged.{tagged_again}
use Rattle.mta_fields.specs.declared.extension.ExtFields.{ExtFields}
use Rattle.mta_fields.specs.declared.identifier.MtsIdFields.{MtsIdFields}
use Rattle.mta_fields.specs.declared.trace.TraceFields.{TraceFields}
use Rattle.mta_fields.specs.Domains.{canonical_domain}
use Rattle.mta_fields.specs.ExtensionFields.{IsExtField, canonical_ext}
use Rattle.mta_fields.specs.Identifiers.{SpellsMtsId, canonical_id}
use Rattle.mta_fields.specs.Laws.{IsWholeId, IsWholeTrace, KeepsTrace, KeepsExtField}
use Rattle.mta_fields.specs.TraceElements.{canonical_trace}
use Rattle.mta_fields.proofs.FieldAgain.{identifier_spelled}
use Rattle.mta_envelope_common.specs.declared.kind.ContentKind.{ContentKind}
use Rattle.mta_envelope_common.specs.declared.kind.ContentKind.TheVariants.{Number, Oid}
use Rattle.mta_envelope_common.specs.ContentIdentifiers.{IsContentId, SpellsContentId, canonical_content_id}
use Rattle.mta_envelope_common.specs.ContentKinds.{IsContentKind, SpellsContentKind, kind_in_front, kind_in_place}
use Rattle.mta_envelope_common.specs.ExtensionLists.{SpellsExtList}
use Rattle.mta_envelope_common.specs.TraceLists.{SpellsTraceList, canonical_trace_list}
use Rattle.mta_envelope_common.proofs.Again.{kind_number_spelled, kind_oid_spelled, trace_list_spelled}
use Rattle.mta_envelope_common.proofs.Again.{ext_list_spelled, ext_list_of, write_ext_list, ext_list_written}
use Rattle.mta_envelope_common.proofs.Again.{ext_list_held}
use Rattle.mta_envelope_common.proofs.SetRows.{SetRow, SetPiece, set_none, set_more, set_optional, set_last}
use Rattle.mta_report_recipient.specs.declared.reported.ReportedFields.{ReportedFields}
use Rattle.mta_report_recipient.specs.Laws.{IsWholeReported, KeepsReported}
use Rattle.mta_report_recipient.specs.ReportedRecipients.{SpellsReportedList, canonical_reported}
use Rattle.mta_report_recipient.specs.ReportedRecipients.{canonical_reported_list}
use Rattle.mta_report_recipient.proofs.ReportedAgain.{reported_list_spelled}
use Rattle.mta_report.specs.declared.content.ContentFields.{ContentFields}
use Rattle.mta_report.specs.declared.content.ContentPart.TheVariants as contents
use Rattle.mta_report.specs.declared.content.ContentParts.{ContentParts}
use Rattle.mta_report.specs.declared.envelope.EnvelopeFields.{EnvelopeFields}
use Rattle.mta_report.specs.declared.envelope.EnvelopePart.TheVariants as envelopes
use Rattle.mta_report.specs.declared.envelope.EnvelopeParts.{EnvelopeParts}
use Rattle.mta_report.specs.declared.fields.ReportFields.{ReportFields}
use Rattle.mta_report.specs.declared.reading.ReportPart.TheVariants as reports
use Rattle.mta_report.specs.declared.reading.ReportParts.{ReportParts}
use Rattle.mta_report.specs.Laws.{IsWholeReport, KeepsReport, ReportsAreReadAgain, WholeReportsAreReadAgain}
use Rattle.mta_report.specs.ReportContents.{with_subject, with_eits, with_content_kind, with_subject_trace}
use Rattle.mta_report.specs.ReportContents.{with_content_id, with_recipients, with_returned, with_additional}
use Rattle.mta_report.specs.ReportContents.{with_extensions as with_content_extensions, MakesContent, SpellsContent}
use Rattle.mta_report.specs.ReportContents.{no_content, report_content, content_content, canonical_content}
use Rattle.mta_report.specs.ReportEnvelopes.{with_destination, with_id, with_trace, with_extensions, MakesEnvelope}
use Rattle.mta_report.specs.ReportEnvelopes.{SpellsEnvelope, no_envelope, report_envelope, envelope_content}
use Rattle.mta_report.specs.ReportEnvelopes.{canonical_envelope}
use Rattle.mta_report.specs.Reports.{with_envelope, with_content, MakesReport, SpellsReport, no_report, report_in}
use Rattle.mta_report.specs.Reports.{canonical_report}
use Rattle.mta_report.proofs.ReportLaws.{report_full}

-- what a list of extension fields has to be, to be a component in the level `depth`
record IsExtList (depth : ℕ) (vs : List ExtFields) : Type 0 where
  fields : Each IsExtField vs
  kept : Each (KeepsExtField (depth + 1)) vs

ext_list_is : (depth : ℕ) (vs : List ExtFields) → Each IsExtField vs → Each (KeepsExtField (depth + 1)) vs
    → IfSome (ext_list_of vs) (IsExtList depth)
ext_list_is depth [] h k = tt
ext_list_is depth (v ∷ vs) h k = record { fields = h; kept = k }

abbrev id_content : MtsIdFields → List ℕ
id_content v = canonical_domain v.domain ++ element (primitive 0 22) v.local

id_low : IsTag (constructed 1 4)
id_low = low_tag 1 4 true (omega arith) (omega arith)

-- ---- envelopes

abbrev envelope_parts : Option Attributes → Option MtsIdFields → Option (List TraceFields) → Option (List ExtFields)
    → EnvelopeParts
envelope_parts destination id trace extensions =
    record { destination = destination; id = id; trace = trace; extensions = extensions }

module _ (depth : ℕ) (d : depth + 5 ≤ 16) (v : ReportFields) where
  abbrev destination_octets : List ℕ
  destination_octets = canonical_name (constructed 1 0) v.destination

  abbrev extension_octets : List ℕ
  extension_octets = optional (write_ext_list (constructed 2 1)) (ext_list_of v.extensions)

  abbrev enveloped : Option (List ExtFields) → EnvelopeParts
  enveloped extensions = envelope_parts (Some v.destination) (Some v.id) (Some v.trace) extensions

  abbrev all_enveloped : EnvelopeParts
  all_enveloped = enveloped (ext_list_of v.extensions)

  envelope_extensions : Each IsExtField v.extensions → Each (KeepsExtField (depth + 1)) v.extensions
      → SetRow MakesEnvelope depth (enveloped None) extension_octets all_enveloped
  envelope_extensions h k =
      set_last MakesEnvelope depth (enveloped None) all_enveloped extension_octets
      (set_optional MakesEnvelope depth (write_ext_list (constructed 2 1)) (IsExtList depth) (λ o. enveloped o)
      (ext_list_of v.extensions) [] all_enveloped (ext_list_is depth v.extensions h k)
      (λ x is short. component MakesEnvelope depth (enveloped None) (enveloped (Some x)) (constructed 2 1)
      (flat_map canonical_ext x) (low_tag 2 1 true (omega arith) (omega arith)) (omega arith) short
      (record {
        part = envelopes.Extensions;
        is_tag_of = refl;
        absent = refl;
        made =
            puts (SpellsExtList depth true (flat_map canonical_ext x)) (with_extensions (enveloped None)) x
            (ext_list_spelled depth x is.fields is.kept (omega arith)
            (short_inside (constructed 2 1) (flat_map canonical_ext x) short));
      }))
      (set_none MakesEnvelope depth all_enveloped))

  trace_there : Each IsWholeTrace v.trace → Each (KeepsTrace (depth + 1)) v.trace → length v.trace ≤ 512
      → SetPiece MakesEnvelope depth (envelope_parts (Some v.destination) (Some v.id) None None)
      (canonical_trace_list v.trace) (enveloped None)
  unfolding canonical_trace_list
  trace_there h k few short =
      let before = envelope_parts (Some v.destination) (Some v.id) None None in
      component MakesEnvelope depth before (enveloped None) (constructed 1 9) (flat_map canonical_trace v.trace)
      (low_tag 1 9 true (omega arith) (omega arith)) (omega arith) short
      (record {
        part = envelopes.Trace;
        is_tag_of = refl;
        absent = refl;
        made =
            puts (SpellsTraceList depth true (flat_map canonical_trace v.trace)) (with_trace before) v.trace
            (trace_list_spelled depth v.trace h k few d
            (short_inside (constructed 1 9) (flat_map canonical_trace v.trace) short));
      })

  id_there : IsWholeId v.id → SetPiece MakesEnvelope depth (envelope_parts (Some v.destination) None None None)
      (canonical_id v.id) (envelope_parts (Some v.destination) (Some v.id) None None)
  unfolding canonical_id
  id_there h short =
      let before = envelope_parts (Some v.destination) None None None in
      component MakesEnvelope depth before (envelope_parts (Some v.destination) (Some v.id) None None) (constructed 1 4)
      (id_content v.id) id_low (omega arith) short
      (record {
        part = envelopes.Identifier;
        is_tag_of = refl;
        absent = refl;
        made =
            puts (SpellsMtsId depth (constructed 1 4) (id_content v.id)) (with_id before) v.id
            (identifier_spelled depth v.id h (omega arith) (short_inside (constructed 1 4) (id_content v.id) short));
      })

  destination_there : IsWholeReport v → KeepsName depth v.destination
      → SetPiece MakesEnvelope depth no_envelope destination_octets (envelope_parts (Some v.destination) None None None)
  unfolding canonical_name
  destination_there h k short =
      component MakesEnvelope depth no_envelope (envelope_parts (Some v.destination) None None None) (constructed 1 0)
      (name_content v.destination) (low_tag 1 0 true (omega arith) (omega arith)) (omega arith) short
      (record {
        part = envelopes.Destination;
        is_tag_of = refl;
        absent = refl;
        made =
            puts (SpellsName depth true (name_content v.destination)) (with_destination no_envelope) v.destination
            (name_spelled depth v.destination h.destination k (omega arith)
            (short_inside (constructed 1 0) (name_content v.destination) short));
      })

  envelope_row : IsWholeReport v → KeepsName depth v.destination → Each (KeepsTrace (depth + 1)) v.trace
      → Each (KeepsExtField (depth + 1)) v.extensions
      → SetRow MakesEnvelope depth no_envelope
      (destination_octets ++ (canonical_id v.id ++ (canonical_trace_list v.trace ++ extension_octets)))
      all_enveloped
  envelope_row h kn kt ke =
      set_more MakesEnvelope depth no_envelope (envelope_parts (Some v.destination) None None None) all_enveloped
      destination_octets (canonical_id v.id ++ (canonical_trace_list v.trace ++ extension_octets))
      (destination_there h kn)
      (set_more MakesEnvelope depth (envelope_parts (Some v.destination) None None None)
      (envelope_parts (Some v.destination) (Some v.id) None None) all_enveloped (canonical_id v.id)
      (canonical_trace_list v.trace ++ extension_octets) (id_there h.id)
      (set_more MakesEnvelope depth (envelope_parts (Some v.destination) (Some v.id) None None)
      (enveloped None) all_enveloped (canonical_trace_list v.trace) extension_octets
      (trace_there h.trace kt h.report.trace) (envelope_extensions h.extensions ke)))

regroup_4 : (a b c d : List ℕ) → a ++ (b ++ (c ++ d)) ≡ a ++ b ++ c ++ d
regroup_4 a b c d = simp append_assoc

envelope_grouped : (v : ReportFields) → canonical_name (constructed 1 0) v.destination
    ++ (canonical_id v.id ++ (canonical_trace_list v.trace
    ++ optional (write_ext_list (constructed 2 1)) (ext_list_of v.extensions))) ≡ envelope_content v
envelope_grouped v =
    regroup_4 (canonical_name (constructed 1 0) v.destination) (canonical_id v.id) (canonical_trace_list v.trace)
    (optional (write_ext_list (constructed 2 1)) (ext_list_of v.extensions))
    ∙ ap (λ octets. canonical_name (constructed 1 0) v.destination ++ canonical_id v.id ++ canonical_trace_list v.trace
    ++ octets) (ext_list_written (constructed 2 1) v.extensions)

abbrev envelope_of : ReportFields → EnvelopeFields
envelope_of v = record { destination = v.destination; id = v.id; trace = v.trace; extensions = v.extensions }

envelope_is : (v : ReportFields) → envelope_of v ≡ report_envelope v.destination v.id v.trace
    (envelope_parts (Some v.destination) (Some v.id) (Some v.trace) (ext_list_of v.extensions))
envelope_is v = ap (λ (xs : List ExtFields). record {
  destination = v.destination;
  id = v.id;
  trace = v.trace;
  extensions = xs;
}) (sym (ext_list_held v.extensions))

envelope_spelled : (depth : ℕ) (v : ReportFields) → IsWholeReport v → KeepsName (depth + 1) v.destination
    → Each (KeepsTrace (depth + 2)) v.trace → Each (KeepsExtField (depth + 2)) v.extensions → depth + 6 ≤ 16
    → length (envelope_content v) < 2 ^ 64
    → SpellsEnvelope depth true (envelope_content v) (envelope_of v)
envelope_spelled depth v h kn kt ke d short =
    let below : depth + 1 + 5 ≤ 16 = omega arith in
    let two : depth + 2 ≡ depth + 1 + 1 = omega arith in
    let parts = envelope_parts (Some v.destination) (Some v.id) (Some v.trace) (ext_list_of v.extensions) in
    let row = envelope_row (depth + 1) below v h kn (subst (λ n. Each (KeepsTrace n) v.trace) two kt)
    (subst (λ n. Each (KeepsExtField n) v.extensions) two ke) in
    let all = subst (λ octets. SetRow MakesEnvelope (depth + 1) no_envelope octets parts) (envelope_grouped v) row in
    record {
      is_constructed = refl;
      parts = parts;
      spelled = row_spelled MakesEnvelope depth no_envelope parts (envelope_content v) (all short);
      destination = v.destination;
      destination_is = refl;
      id = v.id;
      id_is = refl;
      trace = v.trace;
      trace_is = refl;
      value = envelope_is v;
    }

-- ---- contents

abbrev content_parts : Option MtsIdFields → Option (List ℕ) → Option ContentKind → Option (List ℕ) → Option (List ℕ)
    → Option (List ReportedFields) → Option (List ℕ) → Option (List ℕ) → Option (List ExtFields) → ContentParts
content_parts subject eits kind subject_trace content_id recipients returned additional extensions = record {
  subject = subject;
  eits = eits;
  content_kind = kind;
  subject_trace = subject_trace;
  content_id = content_id;
  recipients = recipients;
  returned = returned;
  additional = additional;
  extensions = extensions;
}

-- what is read in front is there before the subject; a number stands between encoded information types and the
-- subject's trace
module _ (depth : ℕ) (d : depth + 6 ≤ 16) (v : ReportFields) where
  abbrev content_extension_octets : List ℕ
  content_extension_octets = optional (write_ext_list (constructed 2 3)) (ext_list_of v.content_extensions)

  abbrev listed_from : List ℕ
  listed_from = canonical_reported_list v.recipients
      ++ (optional kept v.returned ++ (optional kept v.additional ++ content_extension_octets))

  abbrev tail_octets : List ℕ
  tail_octets = optional kept v.subject_trace ++ (optional canonical_content_id v.content_id ++ listed_from)

  abbrev last_state : Option (List ℕ) → Option (List ℕ) → Option (List ExtFields) → ContentParts
  last_state returned additional extensions =
      content_parts (Some v.subject) v.eits v.content_kind v.subject_trace v.content_id
      (Some v.recipients) returned additional extensions

  abbrev all_contained : ContentParts
  all_contained = last_state v.returned v.additional (ext_list_of v.content_extensions)

  content_extensions_row : Each IsExtField v.content_extensions → Each (KeepsExtField (depth + 1)) v.content_extensions
      → SetRow MakesContent depth (last_state v.returned v.additional None) content_extension_octets all_contained
  content_extensions_row h k =
      set_last MakesContent depth (last_state v.returned v.additional None) all_contained content_extension_octets
      (set_optional MakesContent depth (write_ext_list (constructed 2 3)) (IsExtList depth)
      (λ o. last_state v.returned v.additional o) (ext_list_of v.content_extensions) [] all_contained
      (ext_list_is depth v.content_extensions h k)
      (λ x is short. component MakesContent depth (last_state v.returned v.additional None)
      (last_state v.returned v.additional (Some x)) (constructed 2 3) (flat_map canonical_ext x)
      (low_tag 2 3 true (omega arith) (omega arith)) (omega arith) short
      (record {
        part = contents.Extensions;
        is_tag_of = refl;
        absent = refl;
        made =
            puts (SpellsExtList depth true (flat_map canonical_ext x))
            (with_content_extensions (last_state v.returned v.additional None)) x
            (ext_list_spelled depth x is.fields is.kept (omega arith)
            (short_inside (constructed 2 3) (flat_map canonical_ext x) short));
      }))
      (set_none MakesContent depth all_contained))

  raw_rows : IfSome v.returned (IsRawAt depth 2 1) → IfSome v.additional (IsRawAt depth 2 2)
      → SetRow MakesContent depth (last_state v.returned v.additional None) content_extension_octets all_contained
      → SetRow MakesContent depth (last_state None None None)
      (optional kept v.returned ++ (optional kept v.additional ++ content_extension_octets)) all_contained
  raw_rows kr ka r =
      set_optional MakesContent depth kept (IsRawAt depth 2 1) (λ o. last_state o None None) v.returned
      (optional kept v.additional ++ content_extension_octets) all_contained kr
      (λ x is short. record {
        tag = is.tag;
        content = is.content;
        stands = is.stands;
        made =
            record {
              part = contents.Returned;
              is_tag_of = is.is_tag_of;
              absent = refl;
              made =
                  puts (λ y. y ≡ x) (with_returned (last_state None None None)) x refl;
            };
      })
      (set_optional MakesContent depth kept (IsRawAt depth 2 2)
      (λ o. last_state v.returned o None) v.additional content_extension_octets all_contained ka
      (λ x is short. record {
        tag = is.tag;
        content = is.content;
        stands = is.stands;
        made =
            record {
              part = contents.Additional;
              is_tag_of = is.is_tag_of;
              absent = refl;
              made =
                  puts (λ y. y ≡ x) (with_additional (last_state v.returned None None)) x refl;
            };
      })
      r)

  abbrev named_state : Option (List ℕ) → Option (List ℕ) → ContentParts
  named_state subject_trace content_id =
      content_parts (Some v.subject) v.eits v.content_kind subject_trace content_id None None None None

  recipients_there : Each IsWholeReported v.recipients → Each (KeepsReported (depth + 1)) v.recipients → IsWholeReport v
      → SetPiece MakesContent depth (named_state v.subject_trace v.content_id) (canonical_reported_list v.recipients)
      (last_state None None None)
  unfolding canonical_reported_list
  recipients_there h k w short =
      let before = named_state v.subject_trace v.content_id in
      let octets = flat_map canonical_reported v.recipients in
      component MakesContent depth before (last_state None None None) (constructed 2 0) octets
      (low_tag 2 0 true (omega arith) (omega arith)) (omega arith) short
      (record {
        part = contents.Recipients;
        is_tag_of = refl;
        absent = refl;
        made =
            puts (SpellsReportedList depth true octets) (with_recipients before) v.recipients
            (reported_list_spelled depth v.recipients h k w.report.recipients.some w.report.recipients.few d
            (short_inside (constructed 2 0) octets short));
      })

  tail_row : IsWholeReport v → IfSome v.subject_trace (IsRawAt depth 1 9)
      → Each (KeepsReported (depth + 1)) v.recipients
      → SetRow MakesContent depth (last_state None None None)
      (optional kept v.returned ++ (optional kept v.additional ++ content_extension_octets)) all_contained
      → SetRow MakesContent depth (named_state None None) tail_octets all_contained
  tail_row w kt kr r =
      set_optional MakesContent depth kept (IsRawAt depth 1 9) (λ o. named_state o None) v.subject_trace
      (optional canonical_content_id v.content_id ++ listed_from) all_contained kt
      (λ x is short. record {
        tag = is.tag;
        content = is.content;
        stands = is.stands;
        made =
            record {
              part = contents.SubjectTrace;
              is_tag_of = is.is_tag_of;
              absent = refl;
              made =
                  puts (λ y. y ≡ x) (with_subject_trace (named_state None None)) x refl;
            };
      })
      (set_optional MakesContent depth canonical_content_id IsContentId
      (λ o. named_state v.subject_trace o) v.content_id listed_from all_contained w.report.content_id
      (λ x is short. component MakesContent depth (named_state v.subject_trace None)
      (named_state v.subject_trace (Some x)) (primitive 1 10) x (low_tag 1 10 false (omega arith) (omega arith))
      (omega arith) short
      (record {
        part = contents.ContentId;
        is_tag_of = refl;
        absent = refl;
        made =
            puts (SpellsContentId depth false x) (with_content_id (named_state v.subject_trace None)) x
            (text_spelled Printable 1 16 depth x is (omega arith));
      }))
      (set_more MakesContent depth (named_state v.subject_trace v.content_id) (last_state None None None) all_contained
      (canonical_reported_list v.recipients)
      (optional kept v.returned ++ (optional kept v.additional ++ content_extension_octets))
      (recipients_there w.recipients kr w) r))

  abbrev begun_state : Option MtsIdFields → Option (List ℕ) → Option ContentKind → ContentParts
  begun_state subject eits kind = content_parts subject eits kind None None None None None None

  subject_there : (kind : Option ContentKind) → IsWholeId v.subject
      → SetPiece MakesContent depth (begun_state None None kind) (canonical_id v.subject)
      (begun_state (Some v.subject) None kind)
  unfolding canonical_id
  subject_there kind h short =
      component MakesContent depth (begun_state None None kind) (begun_state (Some v.subject) None kind)
      (constructed 1 4) (id_content v.subject) id_low (omega arith) short
      (record {
        part = contents.Subject;
        is_tag_of = refl;
        absent = refl;
        made =
            puts (SpellsMtsId depth (constructed 1 4) (id_content v.subject))
            (with_subject (begun_state None None kind)) v.subject
            (identifier_spelled depth v.subject h (omega arith)
            (short_inside (constructed 1 4) (id_content v.subject) short));
      })

  eits_row : (kind : Option ContentKind) (rest : List ℕ) → IfSome v.eits (IsRawAt depth 1 5)
      → SetRow MakesContent depth (begun_state (Some v.subject) v.eits kind) rest all_contained
      → SetRow MakesContent depth (begun_state (Some v.subject) None kind) (optional kept v.eits ++ rest) all_contained
  eits_row kind rest k r =
      set_optional MakesContent depth kept (IsRawAt depth 1 5)
      (λ o. begun_state (Some v.subject) o kind) v.eits rest all_contained k
      (λ x is short. record {
        tag = is.tag;
        content = is.content;
        stands = is.stands;
        made =
            record {
              part = contents.Eits;
              is_tag_of = is.is_tag_of;
              absent = refl;
              made =
                  puts (λ y. y ≡ x) (with_eits (begun_state (Some v.subject) None kind)) x refl;
            };
      })
      r

  -- from the subject on, with the kind that was read in front
  from_subject : (front : Option ContentKind) (number : List ℕ) → IsWholeReport v → IfSome v.eits (IsRawAt depth 1 5)
      → SetRow MakesContent depth (begun_state (Some v.subject) v.eits front) (number ++ tail_octets) all_contained
      → SetRow MakesContent depth (begun_state None None front)
      (canonical_id v.subject ++ (optional kept v.eits ++ (number ++ tail_octets))) all_contained
  from_subject front number w k r =
      set_more MakesContent depth (begun_state None None front) (begun_state (Some v.subject) None front) all_contained
      (canonical_id v.subject) (optional kept v.eits ++ (number ++ tail_octets)) (subject_there front w.subject)
      (eits_row front (number ++ tail_octets) k r)

  content_row : (kind : Option ContentKind) → IfSome kind IsContentKind → IsWholeReport v
      → IfSome v.eits (IsRawAt depth 1 5)
      → SetRow MakesContent depth (begun_state (Some v.subject) v.eits kind) tail_octets all_contained
      → SetRow MakesContent depth no_content
      (optional kind_in_front kind ++
      (canonical_id v.subject ++ (optional kept v.eits ++ (optional kind_in_place kind ++ tail_octets))))
      all_contained
  content_row None h w k r = from_subject None [] w k r
  content_row (Some (Number n)) h w k r =
      from_subject None (kind_in_place (Number n)) w k
      (set_more MakesContent depth (begun_state (Some v.subject) v.eits None)
      (begun_state (Some v.subject) v.eits (Some (Number n))) all_contained (kind_in_place (Number n)) tail_octets
      (λ short. component MakesContent depth (begun_state (Some v.subject) v.eits None)
      (begun_state (Some v.subject) v.eits (Some (Number n))) (primitive 1 6) (int_content (pos n))
      (low_tag 1 6 false (omega arith) (omega arith)) (omega arith) short
      (record {
        part = contents.ContentType;
        is_tag_of = refl;
        absent = refl;
        made =
            puts (SpellsContentKind depth (primitive 1 6) (int_content (pos n)) (kind_in_place (Number n)))
            (with_content_kind (begun_state (Some v.subject) v.eits None)) (Number n)
            (kind_number_spelled depth n (kind_in_place (Number n)) h);
      }))
      r)
  content_row (Some (Oid o)) h w k r =
      set_more MakesContent depth no_content (begun_state None None (Some (Oid o))) all_contained
      (kind_in_front (Oid o)) (canonical_id v.subject ++ (optional kept v.eits ++ ([] ++ tail_octets)))
      (λ short. component MakesContent depth no_content (begun_state None None (Some (Oid o))) (primitive 0 6) o
      (low_tag 0 6 false (omega arith) (omega arith)) (omega arith) short
      (record {
        part = contents.ContentType;
        is_tag_of = refl;
        absent = refl;
        made =
            puts (SpellsContentKind depth (primitive 0 6) o (kind_in_front (Oid o))) (with_content_kind no_content)
            (Oid o) (kind_oid_spelled depth o (kind_in_front (Oid o)) h);
      }))
      (from_subject (Some (Oid o)) [] w k r)

regroup_10 : (a b c d e f g h i j : List ℕ) → a ++ (b ++ (c ++ (d ++ (e ++ (f ++ (g ++ (h ++ (i ++ j)))))))) ≡ a ++ b
    ++ c ++ d ++ e ++ f ++ g ++ h ++ i ++ j
regroup_10 a b c d e f g h i j = simp append_assoc

content_grouped : (v : ReportFields) → optional kind_in_front v.content_kind
    ++ (canonical_id v.subject ++ (optional kept v.eits
    ++ (optional kind_in_place v.content_kind
    ++ (optional kept v.subject_trace ++ (optional canonical_content_id v.content_id
    ++ (canonical_reported_list v.recipients
    ++ (optional kept v.returned ++
    (optional kept v.additional ++ optional (write_ext_list (constructed 2 3))
    (ext_list_of v.content_extensions))))))))) ≡ content_content v
content_grouped v =
    regroup_10 (optional kind_in_front v.content_kind) (canonical_id v.subject) (optional kept v.eits)
    (optional kind_in_place v.content_kind) (optional kept v.subject_trace)
    (optional canonical_content_id v.content_id) (canonical_reported_list v.recipients) (optional kept v.returned)
    (optional kept v.additional) (optional (write_ext_list (constructed 2 3)) (ext_list_of v.content_extensions))
    ∙ ap (λ octets. optional kind_in_front v.content_kind ++ canonical_id v.subject ++ optional kept v.eits
    ++ optional kind_in_place v.content_kind ++ optional kept v.subject_trace
    ++ optional canonical_content_id v.content_id ++ canonical_reported_list v.recipients
    ++ optional kept v.returned ++ optional kept v.additional ++ octets)
    (ext_list_written (constructed 2 3) v.content_extensions)

abbrev content_of : ReportFields → ContentFields
content_of v = record {
  subject = v.subject;
  subject_trace = v.subject_trace;
  eits = v.eits;
  content_kind = v.content_kind;
  content_id = v.content_id;
  returned = v.returned;
  additional = v.additional;
  extensions = v.content_extensions;
  recipients = v.recipients;
}

abbrev content_parts_of : ReportFields → ContentParts
content_parts_of v = content_parts (Some v.subject) v.eits v.content_kind v.subject_trace v.content_id
    (Some v.recipients) v.returned v.additional (ext_list_of v.content_extensions)

content_is : (v : ReportFields) → content_of v ≡ report_content v.subject v.recipients (content_parts_of v)
content_is v = ap (λ (xs : List ExtFields). record {
  subject = v.subject;
  subject_trace = v.subject_trace;
  eits =
      v.eits;
  content_kind = v.content_kind;
  content_id = v.content_id;
  returned = v.returned;
  additional = v.additional;
  extensions = xs;
  recipients = v.recipients;
}) (sym (ext_list_held v.content_extensions))

record KeepsContent (depth : ℕ) (v : ReportFields) : Type 0 where
  subject_trace : IfSome v.subject_trace (IsRawAt depth 1 9)
  eits : IfSome v.eits (IsRawAt depth 1 5)
  returned : IfSome v.returned (IsRawAt depth 2 1)
  additional : IfSome v.additional (IsRawAt depth 2 2)
  content_extensions : Each (KeepsExtField (depth + 1)) v.content_extensions
  recipients : Each (KeepsReported (depth + 1)) v.recipients

content_spelled : (depth : ℕ) (v : ReportFields) → IsWholeReport v → KeepsContent (depth + 1) v → depth + 7 ≤ 16
    → length (content_content v) < 2 ^ 64 → SpellsContent depth true (content_content v) (content_of v)
content_spelled depth v h k d short =
    let below : depth + 1 + 6 ≤ 16 = omega arith in
    let extensions = content_extensions_row (depth + 1) below v h.content_extensions k.content_extensions in
    let tail = tail_row (depth + 1) below v h k.subject_trace k.recipients
    (raw_rows (depth + 1) below v k.returned k.additional extensions) in
    let row = content_row (depth + 1) below v v.content_kind h.report.content_kind h k.eits tail in
    let all = subst (λ octets. SetRow MakesContent (depth + 1) no_content octets (content_parts_of v))
    (content_grouped v) row in
    record {
      is_constructed = refl;
      parts = content_parts_of v;
      spelled = row_spelled MakesContent depth no_content (content_parts_of v) (content_content v) (all short);
      subject = v.subject;
      subject_is = refl;
      recipients = v.recipients;
      recipients_is = refl;
      value = content_is v;
    }

-- ---- reports

abbrev report_octets : ReportFields → List ℕ
report_octets v = canonical_envelope v ++ canonical_content v

set_low : IsTag (constructed 0 17)
set_low = low_tag 0 17 true (omega arith) (omega arith)

abbrev report_parts : ℕ → Option EnvelopeFields → Option ContentFields → ReportParts
report_parts last envelope content = record { last = last; envelope = envelope; content = content }

keeps_content : (depth : ℕ) (v : ReportFields) → KeepsReport depth v → KeepsContent (depth + 1 + 1) v
keeps_content depth v k =
    let two : depth + 2 ≡ depth + 1 + 1 = omega arith in
    let three : depth + 3 ≡ depth + 1 + 1 + 1 = omega arith in
    record {
      subject_trace = subst (λ n. IfSome v.subject_trace (IsRawAt n 1 9)) two k.subject_trace;
      eits = subst (λ n. IfSome v.eits (IsRawAt n 1 5)) two k.eits;
      returned = subst (λ n. IfSome v.returned (IsRawAt n 2 1)) two k.returned;
      additional = subst (λ n. IfSome v.additional (IsRawAt n 2 2)) two k.additional;
      content_extensions = subst (λ n. Each (KeepsExtField n) v.content_extensions) three k.content_extensions;
      recipients = subst (λ n. Each (KeepsReported n) v.recipients) three k.recipients;
    }

pub report_spelled : (depth : ℕ) (v : ReportFields) → IsWholeReport v → KeepsReport depth v → depth + 8 ≤ 16
    → length (report_octets v) < 2 ^ 64 → SpellsReport depth (constructed 2 1) (report_octets v) v
unfolding canonical_envelope canonical_content
report_spelled depth v h k d short =
    let first = canonical_envelope v in
    let second = canonical_content v in
    let front = short_front first second short in
    let back = short_back first second short in
    let half = report_parts 1 (Some (envelope_of v)) None in
    let all = report_parts 2 (Some (envelope_of v)) (Some (content_of v)) in
    let two : depth + 2 ≡ depth + 1 + 1 = omega arith in
    let three : depth + 3 ≡ depth + 1 + 2 = omega arith in
    let enveloped = envelope_spelled (depth + 1) v h (subst (λ n. KeepsName n v.destination) two k.destination)
    (subst (λ n. Each (KeepsTrace n) v.trace) three k.trace)
    (subst (λ n. Each (KeepsExtField n) v.extensions) three k.extensions) (omega arith)
    (short_inside (constructed 0 17) (envelope_content v) front) in
    let contained = content_spelled (depth + 1) v h (keeps_content depth v k) (omega arith)
    (short_inside (constructed 0 17) (content_content v) back) in
    let envelope_there : IsComponent MakesReport (depth + 1) no_report first half =
    component MakesReport (depth + 1) no_report half (constructed 0 17) (envelope_content v) set_low (omega arith) front
    (record {
      is_set_tag = refl;
      part = reports.Envelope;
      needed = omega arith;
      behind = omega arith;
      made =
          puts (SpellsEnvelope (depth + 1) true (envelope_content v)) (with_envelope no_report)
          (envelope_of v) enveloped;
    }) in
    let content_there : IsComponent MakesReport (depth + 1) half second all =
    component MakesReport (depth + 1) half all (constructed 0 17) (content_content v) set_low (omega arith) back
    (record {
      is_set_tag = refl;
      part = reports.Content;
      needed = omega arith;
      behind = omega arith;
      made =
          puts (SpellsContent (depth + 1) true (content_content v)) (with_content half) (content_of v) contained;
    }) in
    let row = row_more MakesReport (depth + 1) no_report half all first second envelope_there
    (row_last MakesReport (depth + 1) half all second content_there) in
    record {
      is_tag_of = refl;
      parts = all;
      spelled = row_spelled MakesReport depth no_report all (first ++ second) row;
      the_envelope = envelope_of v;
      envelope_is = refl;
      the_content = content_of v;
      content_is = refl;
      value = refl;
    }

report_low : IsTag (constructed 2 1)
report_low = low_tag 2 1 true (omega arith) (omega arith)

pub reports_again : ReportsAreReadAgain
unfolding canonical_report
reports_again depth v h k d = tagged_again report_in SpellsReport report_full depth (constructed 2 1)
    (report_octets v) v report_low (omega arith) (report_spelled depth v h k d)

pub whole_reports_again : WholeReportsAreReadAgain
unfolding canonical_report
whole_reports_again v more at h k short =
    let inside = short_inside (constructed 2 1) (report_octets v) short in
    let spelled = report_spelled 1 v h k (omega arith) inside in
    ap (λ x. x >>= with_rest report_in) (first_again at (constructed 2 1) (report_octets v) more report_low inside)
    ∙ ap (λ x. x >>= λ v. beside v more) (report_full v (lent at 1 (constructed 2 1) (report_octets v) more) spelled)
