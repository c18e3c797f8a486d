-- Components of the contents of reports that are neighbours may change places.
use Rattle.std.proofs.Common.{◌≡◌, ℕ, false, List, refl}
use Rattle.mta_ber.specs.declared.tag.Tag.{Tag}
use Rattle.mta_fields.specs.declared.extension.ExtFields.{ExtFields}
use Rattle.mta_fields.specs.declared.identifier.MtsIdFields.{MtsIdFields}
use Rattle.mta_envelope_common.specs.declared.kind.ContentKind.{ContentKind}
use Rattle.mta_report.specs.declared.content.ContentPart.{ContentPart}
use Rattle.mta_report.specs.declared.content.ContentPart.TheVariants.{Subject, Eits, ContentType, SubjectTrace}
use Rattle.mta_report.specs.declared.content.ContentPart.TheVariants.{ContentId, Recipients, Returned, Additional}
use Rattle.mta_report.specs.declared.content.ContentPart.TheVariants.{Extensions}
use Rattle.mta_report.specs.declared.content.ContentParts.{ContentParts}
use Rattle.mta_report_recipient.specs.declared.reported.ReportedFields.{ReportedFields}
use Rattle.mta_report.specs.ReportContents.{MakesContent, MakesContentPart, content_held, with_additional}
use Rattle.mta_report.specs.ReportContents.{with_content_id, with_content_kind, with_eits, with_extensions}
use Rattle.mta_report.specs.ReportContents.{with_recipients, with_returned, with_subject, with_subject_trace}
use Rattle.mta_set_laws.specs.Orders.{ChangePlaces}
use Rattle.mta_set_laws.proofs.Slots.{Slot, passes_slot, twice}

abbrev subject_slot : Slot ContentParts MtsIdFields
subject_slot = record { put = with_subject; held = content_held Subject }

abbrev eits_slot : Slot ContentParts (List ℕ)
eits_slot = record { put = with_eits; held = content_held Eits }

abbrev content_kind_slot : Slot ContentParts ContentKind
content_kind_slot = record { put = with_content_kind; held = content_held ContentType }

abbrev subject_trace_slot : Slot ContentParts (List ℕ)
subject_trace_slot = record { put = with_subject_trace; held = content_held SubjectTrace }

abbrev content_id_slot : Slot ContentParts (List ℕ)
content_id_slot = record { put = with_content_id; held = content_held ContentId }

abbrev recipients_slot : Slot ContentParts (List ReportedFields)
recipients_slot = record { put = with_recipients; held = content_held Recipients }

abbrev returned_slot : Slot ContentParts (List ℕ)
returned_slot = record { put = with_returned; held = content_held Returned }

abbrev additional_slot : Slot ContentParts (List ℕ)
additional_slot = record { put = with_additional; held = content_held Additional }

abbrev extensions_slot : Slot ContentParts (List ExtFields)
extensions_slot = record { put = with_extensions; held = content_held Extensions }

-- the second of two components may stand before the first
module _ (depth : ℕ) (s t u : ContentParts) (tag : Tag) (content octets : List ℕ) (tag' : Tag)
    (content' octets' : List ℕ) where
  abbrev Passes : (j k : ContentPart) → Type 0
  Passes j k =
      MakesContentPart j depth s tag content octets t → MakesContentPart k depth t tag' content' octets' u
      → content_held j s ≡ false → content_held k t ≡ false
      → (between : ContentParts) × MakesContentPart k depth s tag' content' octets' between × (content_held k s ≡ false)
      × MakesContentPart j depth between tag content octets u × (content_held j between ≡ false)

  -- each component passes the subject
  past_subject : (k : ContentPart) → Passes Subject k
  past_subject Subject = λ m n f e. absurd (twice subject_slot (λ s x. refl) s t m e)
  past_subject Eits = passes_slot subject_slot eits_slot (λ s x. refl) (λ s y. refl) (λ s x y. refl) s t u
  past_subject ContentType =
      passes_slot subject_slot content_kind_slot (λ s x. refl) (λ s y. refl) (λ s x y. refl) s t u
  past_subject SubjectTrace =
      passes_slot subject_slot subject_trace_slot (λ s x. refl) (λ s y. refl) (λ s x y. refl) s t u
  past_subject ContentId = passes_slot subject_slot content_id_slot (λ s x. refl) (λ s y. refl) (λ s x y. refl) s t u
  past_subject Recipients =
      passes_slot subject_slot recipients_slot (λ s x. refl) (λ s y. refl) (λ s x y. refl) s t u
  past_subject Returned = passes_slot subject_slot returned_slot (λ s x. refl) (λ s y. refl) (λ s x y. refl) s t u
  past_subject Additional =
      passes_slot subject_slot additional_slot (λ s x. refl) (λ s y. refl) (λ s x y. refl) s t u
  past_subject Extensions =
      passes_slot subject_slot extensions_slot (λ s x. refl) (λ s y. refl) (λ s x y. refl) s t u

  -- each component passes the encoded information types
  past_eits : (k : ContentPart) → Passes Eits k
  past_eits Subject = passes_slot eits_slot subject_slot (λ s x. refl) (λ s y. refl) (λ s x y. refl) s t u
  past_eits Eits = λ m n f e. absurd (twice eits_slot (λ s x. refl) s t m e)
  past_eits ContentType = passes_slot eits_slot content_kind_slot (λ s x. refl) (λ s y. refl) (λ s x y. refl) s t u
  past_eits SubjectTrace = passes_slot eits_slot subject_trace_slot (λ s x. refl) (λ s y. refl) (λ s x y. refl) s t u
  past_eits ContentId = passes_slot eits_slot content_id_slot (λ s x. refl) (λ s y. refl) (λ s x y. refl) s t u
  past_eits Recipients = passes_slot eits_slot recipients_slot (λ s x. refl) (λ s y. refl) (λ s x y. refl) s t u
  past_eits Returned = passes_slot eits_slot returned_slot (λ s x. refl) (λ s y. refl) (λ s x y. refl) s t u
  past_eits Additional = passes_slot eits_slot additional_slot (λ s x. refl) (λ s y. refl) (λ s x y. refl) s t u
  past_eits Extensions = passes_slot eits_slot extensions_slot (λ s x. refl) (λ s y. refl) (λ s x y. refl) s t u

  -- each component passes the content type
  past_content_kind : (k : ContentPart) → Passes ContentType k
  past_content_kind Subject =
      passes_slot content_kind_slot subject_slot (λ s x. refl) (λ s y. refl) (λ s x y. refl) s t u
  past_content_kind Eits = passes_slot content_kind_slot eits_slot (λ s x. refl) (λ s y. refl) (λ s x y. refl) s t u
  past_content_kind ContentType = λ m n f e. absurd (twice content_kind_slot (λ s x. refl) s t m e)
  past_content_kind SubjectTrace =
      passes_slot content_kind_slot subject_trace_slot (λ s x. refl) (λ s y. refl) (λ s x y. refl) s t u
  past_content_kind ContentId =
      passes_slot content_kind_slot content_id_slot (λ s x. refl) (λ s y. refl) (λ s x y. refl) s t u
  past_content_kind Recipients =
      passes_slot content_kind_slot recipients_slot (λ s x. refl) (λ s y. refl) (λ s x y. refl) s t u
  past_content_kind Returned =
      passes_slot content_kind_slot returned_slot (λ s x. refl) (λ s y. refl) (λ s x y. refl) s t u
  past_content_kind Additional =
      passes_slot content_kind_slot additional_slot (λ s x. refl) (λ s y. refl) (λ s x y. refl) s t u
  past_content_kind Extensions =
      passes_slot content_kind_slot extensions_slot (λ s x. refl) (λ s y. refl) (λ s x y. refl) s t u

  -- each component passes the trace of the subject
  past_subject_trace : (k : ContentPart) → Passes SubjectTrace k
  past_subject_trace Subject =
      passes_slot subject_trace_slot subject_slot (λ s x. refl) (λ s y. refl) (λ s x y. refl) s t u
  past_subject_trace Eits =
      passes_slot subject_trace_slot eits_slot (λ s x. refl) (λ s y. refl) (λ s x y. refl) s t u
  past_subject_trace ContentType =
      passes_slot subject_trace_slot content_kind_slot (λ s x. refl) (λ s y. refl) (λ s x y. refl) s t u
  past_subject_trace SubjectTrace = λ m n f e. absurd (twice subject_trace_slot (λ s x. refl) s t m e)
  past_subject_trace ContentId =
      passes_slot subject_trace_slot content_id_slot (λ s x. refl) (λ s y. refl) (λ s x y. refl) s t u
  past_subject_trace Recipients =
      passes_slot subject_trace_slot recipients_slot (λ s x. refl) (λ s y. refl) (λ s x y. refl) s t u
  past_subject_trace Returned =
      passes_slot subject_trace_slot returned_slot (λ s x. refl) (λ s y. refl) (λ s x y. refl) s t u
  past_subject_trace Additional =
      passes_slot subject_trace_slot additional_slot (λ s x. refl) (λ s y. refl) (λ s x y. refl) s t u
  past_subject_trace Extensions =
      passes_slot subject_trace_slot extensions_slot (λ s x. refl) (λ s y. refl) (λ s x y. refl) s t u

  -- each component passes the content identifier
  past_content_id : (k : ContentPart) → Passes ContentId k
  past_content_id Subject =
      passes_slot content_id_slot subject_slot (λ s x. refl) (λ s y. refl) (λ s x y. refl) s t u
  past_content_id Eits = passes_slot content_id_slot eits_slot (λ s x. refl) (λ s y. refl) (λ s x y. refl) s t u
  past_content_id ContentType =
      passes_slot content_id_slot content_kind_slot (λ s x. refl) (λ s y. refl) (λ s x y. refl) s t u
  past_content_id SubjectTrace =
      passes_slot content_id_slot subject_trace_slot (λ s x. refl) (λ s y. refl) (λ s x y. refl) s t u
  past_content_id ContentId = λ m n f e. absurd (twice content_id_slot (λ s x. refl) s t m e)
  past_content_id Recipients =
      passes_slot content_id_slot recipients_slot (λ s x. refl) (λ s y. refl) (λ s x y. refl) s t u
  past_content_id Returned =
      passes_slot content_id_slot returned_slot (λ s x. refl) (λ s y. refl) (λ s x y. refl) s t u
  past_content_id Additional =
      passes_slot content_id_slot additional_slot (λ s x. refl) (λ s y. refl) (λ s x y. refl) s t u
  past_content_id Extensions =
      passes_slot content_id_slot extensions_slot (λ s x. refl) (λ s y. refl) (λ s x y. refl) s t u

  -- each component passes the recipients
  past_recipients : (k : ContentPart) → Passes Recipients k
  past_recipients Subject =
      passes_slot recipients_slot subject_slot (λ s x. refl) (λ s y. refl) (λ s x y. refl) s t u
  past_recipients Eits = passes_slot recipients_slot eits_slot (λ s x. refl) (λ s y. refl) (λ s x y. refl) s t u
  past_recipients ContentType =
      passes_slot recipients_slot content_kind_slot (λ s x. refl) (λ s y. refl) (λ s x y. refl) s t u
  past_recipients SubjectTrace =
      passes_slot recipients_slot subject_trace_slot (λ s x. refl) (λ s y. refl) (λ s x y. refl) s t u
  past_recipients ContentId =
      passes_slot recipients_slot content_id_slot (λ s x. refl) (λ s y. refl) (λ s x y. refl) s t u
  past_recipients Recipients = λ m n f e. absurd (twice recipients_slot (λ s x. refl) s t m e)
  past_recipients Returned =
      passes_slot recipients_slot returned_slot (λ s x. refl) (λ s y. refl) (λ s x y. refl) s t u
  past_recipients Additional =
      passes_slot recipients_slot additional_slot (λ s x. refl) (λ s y. refl) (λ s x y. refl) s t u
  past_recipients Extensions =
      passes_slot recipients_slot extensions_slot (λ s x. refl) (λ s y. refl) (λ s x y. refl) s t u

  -- each component passes the returned content
  past_returned : (k : ContentPart) → Passes Returned k
  past_returned Subject = passes_slot returned_slot subject_slot (λ s x. refl) (λ s y. refl) (λ s x y. refl) s t u
  past_returned Eits = passes_slot returned_slot eits_slot (λ s x. refl) (λ s y. refl) (λ s x y. refl) s t u
  past_returned ContentType =
      passes_slot returned_slot content_kind_slot (λ s x. refl) (λ s y. refl) (λ s x y. refl) s t u
  past_returned SubjectTrace =
      passes_slot returned_slot subject_trace_slot (λ s x. refl) (λ s y. refl) (λ s x y. refl) s t u
  past_returned ContentId =
      passes_slot returned_slot content_id_slot (λ s x. refl) (λ s y. refl) (λ s x y. refl) s t u
  past_returned Recipients =
      passes_slot returned_slot recipients_slot (λ s x. refl) (λ s y. refl) (λ s x y. refl) s t u
  past_returned Returned = λ m n f e. absurd (twice returned_slot (λ s x. refl) s t m e)
  past_returned Additional =
      passes_slot returned_slot additional_slot (λ s x. refl) (λ s y. refl) (λ s x y. refl) s t u
  past_returned Extensions =
      passes_slot returned_slot extensions_slot (λ s x. refl) (λ s y. refl) (λ s x y. refl) s t u

  -- each component passes the additional information
  past_additional : (k : ContentPart) → Passes Additional k
  past_additional Subject =
      passes_slot additional_slot subject_slot (λ s x. refl) (λ s y. refl) (λ s x y. refl) s t u
  past_additional Eits = passes_slot additional_slot eits_slot (λ s x. refl) (λ s y. refl) (λ s x y. refl) s t u
  past_additional ContentType =
      passes_slot additional_slot content_kind_slot (λ s x. refl) (λ s y. refl) (λ s x y. refl) s t u
  past_additional SubjectTrace =
      passes_slot additional_slot subject_trace_slot (λ s x. refl) (λ s y. refl) (λ s x y. refl) s t u
  past_additional ContentId =
      passes_slot additional_slot content_id_slot (λ s x. refl) (λ s y. refl) (λ s x y. refl) s t u
  past_additional Recipients =
      passes_slot additional_slot recipients_slot (λ s x. refl) (λ s y. refl) (λ s x y. refl) s t u
  past_additional Returned =
      passes_slot additional_slot returned_slot (λ s x. refl) (λ s y. refl) (λ s x y. refl) s t u
  past_additional Additional = λ m n f e. absurd (twice additional_slot (λ s x. refl) s t m e)
  past_additional Extensions =
      passes_slot additional_slot extensions_slot (λ s x. refl) (λ s y. refl) (λ s x y. refl) s t u

  -- each component passes the extensions
  past_extensions : (k : ContentPart) → Passes Extensions k
  past_extensions Subject =
      passes_slot extensions_slot subject_slot (λ s x. refl) (λ s y. refl) (λ s x y. refl) s t u
  past_extensions Eits = passes_slot extensions_slot eits_slot (λ s x. refl) (λ s y. refl) (λ s x y. refl) s t u
  past_extensions ContentType =
      passes_slot extensions_slot content_kind_slot (λ s x. refl) (λ s y. refl) (λ s x y. refl) s t u
  past_extensions SubjectTrace =
      passes_slot extensions_slot subject_trace_slot (λ s x. refl) (λ s y. refl) (λ s x y. refl) s t u
  past_extensions ContentId =
      passes_slot extensions_slot content_id_slot (λ s x. refl) (λ s y. refl) (λ s x y. refl) s t u
  past_extensions Recipients =
      passes_slot extensions_slot recipients_slot (λ s x. refl) (λ s y. refl) (λ s x y. refl) s t u
  past_extensions Returned =
      passes_slot extensions_slot returned_slot (λ s x. refl) (λ s y. refl) (λ s x y. refl) s t u
  past_extensions Additional =
      passes_slot extensions_slot additional_slot (λ s x. refl) (λ s y. refl) (λ s x y. refl) s t u
  past_extensions Extensions = λ m n f e. absurd (twice extensions_slot (λ s x. refl) s t m e)

  swapped : (j k : ContentPart) → Passes j k
  swapped Subject = past_subject
  swapped Eits = past_eits
  swapped ContentType = past_content_kind
  swapped SubjectTrace = past_subject_trace
  swapped ContentId = past_content_id
  swapped Recipients = past_recipients
  swapped Returned = past_returned
  swapped Additional = past_additional
  swapped Extensions = past_extensions

pub report_contents_change : ChangePlaces MakesContent
report_contents_change depth s t u a b h k =
    let m = h.made in
    let n = k.made in
    let w = swapped depth s t u h.tag h.content a k.tag k.content b m.part n.part m.made n.made m.absent n.absent in (
      w.0,
      record {
        tag = k.tag;
        content = k.content;
        stands = k.stands;
        made = record { part = n.part; is_tag_of = n.is_tag_of; absent = w.2; made = w.1 };
      },
      record {
        tag = h.tag;
        content = h.content;
        stands = h.stands;
        made = record { part = m.part; is_tag_of = m.is_tag_of; absent = w.4; made = w.3 };
      },
    )
