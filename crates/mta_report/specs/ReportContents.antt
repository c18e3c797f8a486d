-- The content of a report (X.411, ReportTransferContent): a SET.
use Rattle.std.specs.Prelude.{◌≡◌, ℕ, Bool, true, false, List, [], ◌++◌, Option, Some, None}
use Rattle.std.specs.Prelude.{is_some, unwrap_or, Result, Ok, ◌&&◌, if◌then◌else◌}
use Rattle.mta_ber.specs.declared.fault.Fault.{Fault}
use Rattle.mta_ber.specs.declared.fault.Kind.TheVariants.{BadTag, Twice}
use Rattle.mta_ber.specs.declared.tag.Tag.{Tag}
use Rattle.mta_ber.specs.Canon.{element, constructed, optional}
use Rattle.mta_ber.specs.Components.{SpellsComponents}
use Rattle.mta_ber.specs.Element.{Part}
use Rattle.mta_ber.specs.Forms.{is_constructed_tag}
use Rattle.mta_ber.specs.Head.{◌>>=◌, fault}
use Rattle.mta_ber.specs.Parts.{components, is_tag, required}
use Rattle.mta_names.specs.Names.{kept}
use Rattle.mta_names.specs.Strings.{Puts}
use Rattle.mta_fields.specs.declared.extension.ExtFields.{ExtFields}
use Rattle.mta_fields.specs.declared.identifier.MtsIdFields.{MtsIdFields}
use Rattle.mta_fields.specs.Identifiers.{id_in, SpellsMtsId, canonical_id}
use Rattle.mta_fields.specs.Traces.{raw_in}
use Rattle.mta_envelope_common.specs.declared.kind.ContentKind.{ContentKind}
use Rattle.mta_envelope_common.specs.ContentIdentifiers.{content_id_in, SpellsContentId, canonical_content_id}
use Rattle.mta_envelope_common.specs.ContentKinds.{is_content_kind, content_kind_in, SpellsContentKind}
use Rattle.mta_envelope_common.specs.ContentKinds.{kind_in_front, kind_in_place}
use Rattle.mta_envelope_common.specs.ExtensionLists.{ext_list_in, SpellsExtList, canonical_ext_list}
use Rattle.mta_report.specs.declared.content.ContentPart.{ContentPart}
use Rattle.mta_report.specs.declared.content.ContentPart.TheVariants.{Subject, Eits, ContentType, SubjectTrace}
use Rattle.mta_report.specs.declared.content.ContentPart.TheVariants.{ContentId, Recipients, Returned}
use Rattle.mta_report.specs.declared.content.ContentPart.TheVariants.{Additional, Extensions}
use Rattle.mta_report.specs.declared.content.ContentParts.{ContentParts}
use Rattle.mta_report.specs.declared.content.ContentFields.{ContentFields}
use Rattle.mta_report.specs.declared.fields.ReportFields.{ReportFields}
use Rattle.mta_report_recipient.specs.declared.reported.ReportedFields.{ReportedFields}
use Rattle.mta_report_recipient.specs.ReportedRecipients.{reported_list_in, SpellsReportedList, canonical_reported_list}

abbrev pub content_part_of : Tag → Option ContentPart
content_part_of t =
    if is_constructed_tag 1 4 t then Some Subject
    else if is_tag 1 5 t then Some Eits
    else if is_content_kind t then Some ContentType
    else if is_tag 1 9 t then Some SubjectTrace
    else if is_tag 1 10 t then Some ContentId
    else if is_constructed_tag 2 0 t then Some Recipients
    else if is_tag 2 1 t then Some Returned
    else if is_tag 2 2 t then Some Additional
    else if is_constructed_tag 2 3 t then Some Extensions
    else None

-- whether a tag is that of a component
abbrev pub is_content_tag : ContentPart → Tag → Bool
is_content_tag Subject t = is_constructed_tag 1 4 t
is_content_tag Eits t = is_tag 1 5 t
is_content_tag ContentType t = is_content_kind t
is_content_tag SubjectTrace t = is_tag 1 9 t
is_content_tag ContentId t = is_tag 1 10 t
is_content_tag Recipients t = is_constructed_tag 2 0 t
is_content_tag Returned t = is_tag 2 1 t
is_content_tag Additional t = is_tag 2 2 t
is_content_tag Extensions t = is_constructed_tag 2 3 t

-- whether a component is there already
abbrev pub content_held : ContentPart → ContentParts → Bool
content_held Subject s = is_some s.subject
content_held Eits s = is_some s.eits
content_held ContentType s = is_some s.content_kind
content_held SubjectTrace s = is_some s.subject_trace
content_held ContentId s = is_some s.content_id
content_held Recipients s = is_some s.recipients
content_held Returned s = is_some s.returned
content_held Additional s = is_some s.additional
content_held Extensions s = is_some s.extensions

abbrev pub with_subject : ContentParts → MtsIdFields → ContentParts
with_subject s x = record s { subject = Some x }

abbrev pub with_eits : ContentParts → List ℕ → ContentParts
with_eits s x = record s { eits = Some x }

abbrev pub with_content_kind : ContentParts → ContentKind → ContentParts
with_content_kind s x = record s { content_kind = Some x }

abbrev pub with_subject_trace : ContentParts → List ℕ → ContentParts
with_subject_trace s x = record s { subject_trace = Some x }

abbrev pub with_content_id : ContentParts → List ℕ → ContentParts
with_content_id s x = record s { content_id = Some x }

abbrev pub with_recipients : ContentParts → List ReportedFields → ContentParts
with_recipients s x = record s { recipients = Some x }

abbrev pub with_returned : ContentParts → List ℕ → ContentParts
with_returned s x = record s { returned = Some x }

abbrev pub with_additional : ContentParts → List ℕ → ContentParts
with_additional s x = record s { additional = Some x }

abbrev pub with_extensions : ContentParts → List ExtFields → ContentParts
with_extensions s x = record s { extensions = Some x }

abbrev pub content_part_in : ContentPart → ContentParts → Part → Result ContentParts Fault
content_part_in Subject s p = id_in p >>= λ x. Ok (with_subject s x)
content_part_in Eits s p = raw_in p >>= λ x. Ok (with_eits s x)
content_part_in ContentType s p = content_kind_in p >>= λ x. Ok (with_content_kind s x)
content_part_in SubjectTrace s p = raw_in p >>= λ x. Ok (with_subject_trace s x)
content_part_in ContentId s p = content_id_in p >>= λ x. Ok (with_content_id s x)
content_part_in Recipients s p = reported_list_in p >>= λ x. Ok (with_recipients s x)
content_part_in Returned s p = raw_in p >>= λ x. Ok (with_returned s x)
content_part_in Additional s p = raw_in p >>= λ x. Ok (with_additional s x)
content_part_in Extensions s p = ext_list_in p >>= λ x. Ok (with_extensions s x)

-- each component may stand once
abbrev pub content_step_of : Option ContentPart → ContentParts → Part → Result ContentParts Fault
content_step_of None s p = fault p.at BadTag
content_step_of (Some k) s p = if content_held k s then fault p.at Twice else content_part_in k s p

unfoldable pub content_step : ContentParts → Part → Result ContentParts Fault
content_step s p = content_step_of (content_part_of p.tag) s p

abbrev pub no_content : ContentParts
no_content = record {
  subject = None;
  eits = None;
  content_kind = None;
  subject_trace = None;
  content_id = None;
  recipients = None;
  returned = None;
  additional = None;
  extensions = None;
}

abbrev pub report_content : MtsIdFields → List ReportedFields → ContentParts → ContentFields
report_content subject recipients s = record {
  subject = subject;
  subject_trace = s.subject_trace;
  eits = s.eits;
  content_kind = s.content_kind;
  content_id = s.content_id;
  returned = s.returned;
  additional = s.additional;
  extensions = unwrap_or s.extensions [];
  recipients = recipients;
}

-- whether the required components are there
abbrev pub content_complete : ContentParts → Bool
content_complete s = is_some s.subject && is_some s.recipients

-- the required components are there
abbrev pub content_from : ContentParts → ℕ → Result ContentFields Fault
content_from s at = required s.subject at >>= λ subject. required s.recipients at >>= λ recipients. Ok
    (report_content subject recipients s)

unfoldable pub content_in : Part → Result ContentFields Fault
content_in p = components content_step no_content p >>= λ s. content_from s p.at

-- ---- what spells a content

abbrev pub MakesContentPart : ContentPart → ℕ → ContentParts → Tag → List ℕ → List ℕ → ContentParts
    → Type 0
MakesContentPart Subject depth s tag content octets after = Puts (SpellsMtsId depth tag content) (with_subject s) after
MakesContentPart Eits depth s tag content octets after = Puts (λ x. x ≡ octets) (with_eits s) after
MakesContentPart ContentType depth s tag content octets after =
    Puts (SpellsContentKind depth tag content octets) (with_content_kind s) after
MakesContentPart SubjectTrace depth s tag content octets after = Puts (λ x. x ≡ octets) (with_subject_trace s) after
MakesContentPart ContentId depth s tag content octets after =
    Puts (SpellsContentId depth tag.constructed content) (with_content_id s) after
MakesContentPart Recipients depth s tag content octets after =
    Puts (SpellsReportedList depth tag.constructed content) (with_recipients s) after
MakesContentPart Returned depth s tag content octets after = Puts (λ x. x ≡ octets) (with_returned s) after
MakesContentPart Additional depth s tag content octets after = Puts (λ x. x ≡ octets) (with_additional s) after
MakesContentPart Extensions depth s tag content octets after =
    Puts (SpellsExtList depth tag.constructed content) (with_extensions s) after

pub record MakesContent (depth : ℕ) (before : ContentParts) (tag : Tag) (content octets : List ℕ)
    (after : ContentParts) : Type 0 where
  pub part : ContentPart
  pub is_tag_of : is_content_tag part tag ≡ true
  pub absent : content_held part before ≡ false
  pub made : MakesContentPart part depth before tag content octets after

-- a SET of its components in any order, each at most once
pub record SpellsContent (depth : ℕ) (constructed : Bool) (content : List ℕ) (v : ContentFields) : Type 0 where
  pub is_constructed : constructed ≡ true
  pub parts : ContentParts
  pub spelled : SpellsComponents MakesContent depth no_content content parts
  pub subject : MtsIdFields
  pub subject_is : parts.subject ≡ Some subject
  pub recipients : List ReportedFields
  pub recipients_is : parts.recipients ≡ Some recipients
  pub value : v ≡ report_content subject recipients parts

-- ---- the one spelling that is written: a content type that is an object identifier stands in front, for its tag comes
-- first

abbrev pub content_content : ReportFields → List ℕ
content_content v =
    optional kind_in_front v.content_kind
    ++ canonical_id v.subject
    ++ optional kept v.eits
    ++ optional kind_in_place v.content_kind
    ++ optional kept v.subject_trace
    ++ optional canonical_content_id v.content_id
    ++ canonical_reported_list v.recipients
    ++ optional kept v.returned
    ++ optional kept v.additional
    ++ canonical_ext_list (constructed 2 3) v.content_extensions

unfoldable pub canonical_content : ReportFields → List ℕ
canonical_content v = element (constructed 0 17) (content_content v)
