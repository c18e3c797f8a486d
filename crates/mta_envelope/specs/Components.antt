-- The components of the envelope of a message or a probe (X.411, MessageTransferEnvelope and ProbeTransferEnvelope).
-- That of a probe has no priority, and has a content length in place of a deferred delivery time.
use Rattle.std.specs.Prelude.{◌≡◌, ℕ, Bool, true, List, Option, Some, None, Result, Ok, ◌&&◌, not, if◌then◌else◌}
use Rattle.mta_ber.specs.declared.fault.Fault.{Fault}
use Rattle.mta_ber.specs.declared.fault.Kind.TheVariants.{BadTag}
use Rattle.mta_ber.specs.declared.tag.Tag.{Tag}
use Rattle.mta_ber.specs.Bits.{BitString}
use Rattle.mta_ber.specs.Element.{Part}
use Rattle.mta_ber.specs.Forms.{is_primitive_tag, is_constructed_tag}
use Rattle.mta_ber.specs.Head.{◌>>=◌, fault}
use Rattle.mta_ber.specs.Moments.{SpellsMoment}
use Rattle.mta_ber.specs.Parts.{is_tag, once}
use Rattle.mta_ber.specs.Times.{utc_in}
use Rattle.mta_names.specs.declared.attributes.Attributes.{Attributes}
use Rattle.mta_names.specs.Names.{name_in, SpellsName}
use Rattle.mta_names.specs.Strings.{Puts, number_in, SpellsNumber}
use Rattle.mta_fields.specs.declared.identifier.MtsIdFields.{MtsIdFields}
use Rattle.mta_fields.specs.declared.trace.TraceFields.{TraceFields}
use Rattle.mta_fields.specs.Identifiers.{id_in, SpellsMtsId}
use Rattle.mta_fields.specs.Traces.{raw_in}
use Rattle.mta_envelope_common.specs.declared.kind.ContentKind.{ContentKind}
use Rattle.mta_envelope_common.specs.ContentIdentifiers.{content_id_in, SpellsContentId}
use Rattle.mta_envelope_common.specs.ContentKinds.{is_content_kind, content_kind_in, SpellsContentKind}
use Rattle.mta_envelope_common.specs.Indicators.{indicators_in, SpellsIndicators}
use Rattle.mta_envelope_common.specs.TraceLists.{trace_list_in, SpellsTraceList}
use Rattle.mta_envelope_extensions.specs.declared.extensions.Extensions.{Extensions}
use Rattle.mta_envelope_extensions.specs.Told.{extensions_in, SpellsExtensions}
use Rattle.mta_envelope_recipient.specs.declared.recipient.RecipientFields.{RecipientFields}
use Rattle.mta_envelope_recipient.specs.Lists.{recipients_in, SpellsRecipients}
use Rattle.mta_envelope.specs.declared.priority.Priority.{Priority}
use Rattle.mta_envelope.specs.declared.parts.EnvelopePart.{EnvelopePart}
use Rattle.mta_envelope.specs.declared.parts.EnvelopePart.TheVariants.{Originator, Identifier, InformationTypes}
use Rattle.mta_envelope.specs.declared.parts.EnvelopePart.TheVariants.{ContentType, MessagePriority, Indicators}
use Rattle.mta_envelope.specs.declared.parts.EnvelopePart.TheVariants.{TraceList, ContentIdentifier, Deferral, Length}
use Rattle.mta_envelope.specs.declared.parts.EnvelopePart.TheVariants.{Bilateral, RecipientList, ExtensionSet}
use Rattle.mta_envelope.specs.declared.parts.EnvelopeParts.{EnvelopeParts}
use Rattle.mta_envelope.specs.Priorities.{priority_in, SpellsPriority}

-- the greatest content length, 2^63 - 1
abbrev pub longest : ℕ
longest = 9223372036854775807

unfoldable pub length_in : Part → Result ℕ Fault
length_in p = number_in 0 longest p

-- ---- tags

abbrev pub context_part_of : Bool → Tag → Option EnvelopePart
context_part_of probe t =
    if is_tag 2 0 t && not probe then Some Deferral
    else if is_primitive_tag 2 0 t && probe then Some Length
    else if is_tag 2 1 t then Some Bilateral
    else if is_constructed_tag 2 2 t then Some RecipientList
    else if is_constructed_tag 2 3 t then Some ExtensionSet
    else None

abbrev pub envelope_part_of : Bool → Tag → Option EnvelopePart
envelope_part_of probe t =
    if is_constructed_tag 1 0 t then Some Originator
    else if is_constructed_tag 1 4 t then Some Identifier
    else if is_tag 1 5 t then Some InformationTypes
    else if is_content_kind t then Some ContentType
    else if is_primitive_tag 1 7 t && not probe then Some MessagePriority
    else if is_tag 1 8 t then Some Indicators
    else if is_constructed_tag 1 9 t then Some TraceList
    else if is_tag 1 10 t then Some ContentIdentifier
    else context_part_of probe t

abbrev pub is_envelope_tag : Bool → EnvelopePart → Tag → Bool
is_envelope_tag probe Originator t = is_constructed_tag 1 0 t
is_envelope_tag probe Identifier t = is_constructed_tag 1 4 t
is_envelope_tag probe InformationTypes t = is_tag 1 5 t
is_envelope_tag probe ContentType t = is_content_kind t
is_envelope_tag probe MessagePriority t = is_primitive_tag 1 7 t && not probe
is_envelope_tag probe Indicators t = is_tag 1 8 t
is_envelope_tag probe TraceList t = is_constructed_tag 1 9 t
is_envelope_tag probe ContentIdentifier t = is_tag 1 10 t
is_envelope_tag probe Deferral t = is_tag 2 0 t && not probe
is_envelope_tag probe Length t = is_primitive_tag 2 0 t && probe
is_envelope_tag probe Bilateral t = is_tag 2 1 t
is_envelope_tag probe RecipientList t = is_constructed_tag 2 2 t
is_envelope_tag probe ExtensionSet t = is_constructed_tag 2 3 t

-- ---- places

abbrev pub with_originator : EnvelopeParts → Attributes → EnvelopeParts
with_originator s x = record s { originator = Some x }

abbrev pub with_id : EnvelopeParts → MtsIdFields → EnvelopeParts
with_id s x = record s { id = Some x }

abbrev pub with_eits : EnvelopeParts → List ℕ → EnvelopeParts
with_eits s x = record s { eits = Some x }

abbrev pub with_content_kind : EnvelopeParts → ContentKind → EnvelopeParts
with_content_kind s x = record s { content_kind = Some x }

abbrev pub with_priority : EnvelopeParts → Priority → EnvelopeParts
with_priority s x = record s { priority = Some x }

abbrev pub with_indicators : EnvelopeParts → BitString → EnvelopeParts
with_indicators s x = record s { indicators = Some x }

abbrev pub with_trace : EnvelopeParts → List TraceFields → EnvelopeParts
with_trace s x = record s { trace = Some x }

abbrev pub with_content_id : EnvelopeParts → List ℕ → EnvelopeParts
with_content_id s x = record s { content_id = Some x }

abbrev pub with_deferral : EnvelopeParts → ℕ → EnvelopeParts
with_deferral s x = record s { deferral = Some x }

abbrev pub with_length : EnvelopeParts → ℕ → EnvelopeParts
with_length s x = record s { length = Some x }

abbrev pub with_bilateral : EnvelopeParts → List ℕ → EnvelopeParts
with_bilateral s x = record s { bilateral = Some x }

abbrev pub with_recipients : EnvelopeParts → List RecipientFields → EnvelopeParts
with_recipients s x = record s { recipients = Some x }

abbrev pub with_extensions : EnvelopeParts → Extensions → EnvelopeParts
with_extensions s x = record s { extensions = Some x }

-- ---- reading

abbrev pub envelope_part_in : EnvelopePart → EnvelopeParts → Part → Result EnvelopeParts Fault
envelope_part_in Originator s p = once s.originator p.at (name_in p) >>= λ x. Ok (with_originator s x)
envelope_part_in Identifier s p = once s.id p.at (id_in p) >>= λ x. Ok (with_id s x)
envelope_part_in InformationTypes s p = once s.eits p.at (raw_in p) >>= λ x. Ok (with_eits s x)
envelope_part_in ContentType s p = once s.content_kind p.at (content_kind_in p) >>= λ x. Ok (with_content_kind s x)
envelope_part_in MessagePriority s p = once s.priority p.at (priority_in p) >>= λ x. Ok (with_priority s x)
envelope_part_in Indicators s p = once s.indicators p.at (indicators_in p) >>= λ x. Ok (with_indicators s x)
envelope_part_in TraceList s p = once s.trace p.at (trace_list_in p) >>= λ x. Ok (with_trace s x)
envelope_part_in ContentIdentifier s p = once s.content_id p.at (content_id_in p) >>= λ x. Ok (with_content_id s x)
envelope_part_in Deferral s p = once s.deferral p.at (utc_in p) >>= λ x. Ok (with_deferral s x)
envelope_part_in Length s p = once s.length p.at (length_in p) >>= λ x. Ok (with_length s x)
envelope_part_in Bilateral s p = once s.bilateral p.at (raw_in p) >>= λ x. Ok (with_bilateral s x)
envelope_part_in RecipientList s p = once s.recipients p.at (recipients_in p) >>= λ x. Ok (with_recipients s x)
envelope_part_in ExtensionSet s p = once s.extensions p.at (extensions_in p) >>= λ x. Ok (with_extensions s x)

abbrev pub envelope_step_of : Option EnvelopePart → EnvelopeParts → Part → Result EnvelopeParts Fault
envelope_step_of None s p = fault p.at BadTag
envelope_step_of (Some k) s p = envelope_part_in k s p

unfoldable pub envelope_step : EnvelopeParts → Part → Result EnvelopeParts Fault
envelope_step s p = envelope_step_of (envelope_part_of s.probe p.tag) s p

abbrev pub no_envelope : Bool → EnvelopeParts
no_envelope probe = record {
  probe = probe;
  originator = None;
  id = None;
  eits = None;
  content_kind = None;
  priority = None;
  indicators = None;
  trace = None;
  content_id = None;
  deferral = None;
  length = None;
  bilateral = None;
  recipients = None;
  extensions = None;
}

-- ---- what spells a component

abbrev pub MakesEnvelopePart : EnvelopePart → ℕ → EnvelopeParts → Tag → List ℕ → List ℕ
    → EnvelopeParts → Type 0
MakesEnvelopePart Originator depth s tag content octets after = (s.originator ≡ None)
    × Puts (SpellsName depth tag.constructed content) (with_originator s) after
MakesEnvelopePart Identifier depth s tag content octets after = (s.id ≡ None)
    × Puts (SpellsMtsId depth tag content) (with_id s) after
MakesEnvelopePart InformationTypes depth s tag content octets after = (s.eits ≡ None)
    × Puts (λ x. x ≡ octets) (with_eits s) after
MakesEnvelopePart ContentType depth s tag content octets after = (s.content_kind ≡ None)
    × Puts (SpellsContentKind depth tag content octets) (with_content_kind s) after
MakesEnvelopePart MessagePriority depth s tag content octets after = (s.priority ≡ None)
    × Puts (SpellsPriority tag.constructed content) (with_priority s) after
MakesEnvelopePart Indicators depth s tag content octets after = (s.indicators ≡ None)
    × Puts (SpellsIndicators depth tag.constructed content) (with_indicators s) after
MakesEnvelopePart TraceList depth s tag content octets after = (s.trace ≡ None)
    × Puts (SpellsTraceList depth tag.constructed content) (with_trace s) after
MakesEnvelopePart ContentIdentifier depth s tag content octets after = (s.content_id ≡ None)
    × Puts (SpellsContentId depth tag.constructed content) (with_content_id s) after
MakesEnvelopePart Deferral depth s tag content octets after = (s.deferral ≡ None)
    × Puts (SpellsMoment depth tag.constructed content) (with_deferral s) after
MakesEnvelopePart Length depth s tag content octets after = (s.length ≡ None)
    × Puts (SpellsNumber 0 longest tag.constructed content) (with_length s) after
MakesEnvelopePart Bilateral depth s tag content octets after = (s.bilateral ≡ None)
    × Puts (λ x. x ≡ octets) (with_bilateral s) after
MakesEnvelopePart RecipientList depth s tag content octets after = (s.recipients ≡ None)
    × Puts (SpellsRecipients depth tag.constructed content) (with_recipients s) after
MakesEnvelopePart ExtensionSet depth s tag content octets after = (s.extensions ≡ None)
    × Puts (SpellsExtensions depth tag.constructed content) (with_extensions s) after

pub record MakesEnvelope (depth : ℕ) (before : EnvelopeParts) (tag : Tag) (content octets : List ℕ)
    (after : EnvelopeParts) : Type 0 where
  pub part : EnvelopePart
  pub is_tag_of : is_envelope_tag before.probe part tag ≡ true
  pub made : MakesEnvelopePart part depth before tag content octets after
