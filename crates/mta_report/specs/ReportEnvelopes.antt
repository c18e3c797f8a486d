-- The envelope of a report (X.411, ReportTransferEnvelope): a SET.
use Rattle.std.specs.Prelude.{◌≡◌, ℕ, Bool, true, false, List, [], ◌++◌, Option, Some, None}
use Rattle.std.specs.Prelude.{is_some, unwrap_or, Result, Ok, ◌&&◌, if◌then◌else◌}
use Rattle.mta_ber.specs.declared.fault.Fault.{Fault}
use Rattle.mta_ber.specs.declared.fault.Kind.TheVariants.{BadTag, Twice}
use Rattle.mta_ber.specs.declared.tag.Tag.{Tag}
use Rattle.mta_ber.specs.Canon.{element, constructed}
use Rattle.mta_ber.specs.Components.{SpellsComponents}
use Rattle.mta_ber.specs.Element.{Part}
use Rattle.mta_ber.specs.Forms.{is_constructed_tag}
use Rattle.mta_ber.specs.Head.{◌>>=◌, fault}
use Rattle.mta_ber.specs.Parts.{components, is_tag, required}
use Rattle.mta_names.specs.declared.attributes.Attributes.{Attributes}
use Rattle.mta_names.specs.Names.{name_in, SpellsName, canonical_name}
use Rattle.mta_names.specs.Strings.{Puts}
use Rattle.mta_fields.specs.declared.extension.ExtFields.{ExtFields}
use Rattle.mta_fields.specs.declared.identifier.MtsIdFields.{MtsIdFields}
use Rattle.mta_fields.specs.declared.trace.TraceFields.{TraceFields}
use Rattle.mta_fields.specs.Identifiers.{id_in, SpellsMtsId, canonical_id}
use Rattle.mta_envelope_common.specs.ExtensionLists.{ext_list_in, SpellsExtList, canonical_ext_list}
use Rattle.mta_envelope_common.specs.TraceLists.{trace_list_in, SpellsTraceList, canonical_trace_list}
use Rattle.mta_report.specs.declared.envelope.EnvelopePart.{EnvelopePart}
use Rattle.mta_report.specs.declared.envelope.EnvelopePart.TheVariants.{Destination, Identifier, Trace, Extensions}
use Rattle.mta_report.specs.declared.envelope.EnvelopeParts.{EnvelopeParts}
use Rattle.mta_report.specs.declared.envelope.EnvelopeFields.{EnvelopeFields}
use Rattle.mta_report.specs.declared.fields.ReportFields.{ReportFields}

abbrev pub envelope_part_of : Tag → Option EnvelopePart
envelope_part_of t =
    if is_constructed_tag 1 0 t then Some Destination
    else if is_constructed_tag 1 4 t then Some Identifier
    else if is_constructed_tag 1 9 t then Some Trace
    else if is_constructed_tag 2 1 t then Some Extensions
    else None

-- whether a tag is that of a component
abbrev pub is_envelope_tag : EnvelopePart → Tag → Bool
is_envelope_tag Destination t = is_constructed_tag 1 0 t
is_envelope_tag Identifier t = is_constructed_tag 1 4 t
is_envelope_tag Trace t = is_constructed_tag 1 9 t
is_envelope_tag Extensions t = is_constructed_tag 2 1 t

-- whether a component is there already
abbrev pub envelope_held : EnvelopePart → EnvelopeParts → Bool
envelope_held Destination s = is_some s.destination
envelope_held Identifier s = is_some s.id
envelope_held Trace s = is_some s.trace
envelope_held Extensions s = is_some s.extensions

abbrev pub with_destination : EnvelopeParts → Attributes → EnvelopeParts
with_destination s x = record s { destination = Some x }

abbrev pub with_id : EnvelopeParts → MtsIdFields → EnvelopeParts
with_id s x = record s { id = Some x }

abbrev pub with_trace : EnvelopeParts → List TraceFields → EnvelopeParts
with_trace s x = record s { trace = Some x }

abbrev pub with_extensions : EnvelopeParts → List ExtFields → EnvelopeParts
with_extensions s x = record s { extensions = Some x }

abbrev pub envelope_part_in : EnvelopePart → EnvelopeParts → Part → Result EnvelopeParts Fault
envelope_part_in Destination s p = name_in p >>= λ x. Ok (with_destination s x)
envelope_part_in Identifier s p = id_in p >>= λ x. Ok (with_id s x)
envelope_part_in Trace s p = trace_list_in p >>= λ x. Ok (with_trace s x)
envelope_part_in Extensions s p = ext_list_in p >>= λ x. Ok (with_extensions s x)

-- each component may stand once
abbrev pub envelope_step_of : Option EnvelopePart → EnvelopeParts → Part → Result EnvelopeParts Fault
envelope_step_of None s p = fault p.at BadTag
envelope_step_of (Some k) s p = if envelope_held k s then fault p.at Twice else envelope_part_in k s p

unfoldable pub envelope_step : EnvelopeParts → Part → Result EnvelopeParts Fault
envelope_step s p = envelope_step_of (envelope_part_of p.tag) s p

abbrev pub no_envelope : EnvelopeParts
no_envelope = record { destination = None; id = None; trace = None; extensions = None }

abbrev pub report_envelope : Attributes → MtsIdFields → List TraceFields → EnvelopeParts → EnvelopeFields
report_envelope destination id trace s =
    record { destination = destination; id = id; trace = trace; extensions = unwrap_or s.extensions [] }

-- whether the required components are there
abbrev pub envelope_complete : EnvelopeParts → Bool
envelope_complete s = is_some s.destination && is_some s.id && is_some s.trace

-- the required components are there
abbrev pub envelope_from : EnvelopeParts → ℕ → Result EnvelopeFields Fault
envelope_from s at = required s.destination at >>= λ destination. required s.id at >>= λ id. required s.trace at >>=
    λ trace. Ok (report_envelope destination id trace s)

unfoldable pub envelope_in : Part → Result EnvelopeFields Fault
envelope_in p = components envelope_step no_envelope p >>= λ s. envelope_from s p.at

-- ---- what spells an envelope

abbrev pub MakesEnvelopePart : EnvelopePart → ℕ → EnvelopeParts → Tag → List ℕ → List ℕ
    → EnvelopeParts → Type 0
MakesEnvelopePart Destination depth s tag content octets after =
    Puts (SpellsName depth tag.constructed content) (with_destination s) after
MakesEnvelopePart Identifier depth s tag content octets after = Puts (SpellsMtsId depth tag content) (with_id s) after
MakesEnvelopePart Trace depth s tag content octets after =
    Puts (SpellsTraceList depth tag.constructed content) (with_trace s) after
MakesEnvelopePart Extensions depth s tag content octets after =
    Puts (SpellsExtList depth tag.constructed content) (with_extensions s) after

pub record MakesEnvelope (depth : ℕ) (before : EnvelopeParts) (tag : Tag) (content octets : List ℕ)
    (after : EnvelopeParts) : Type 0 where
  pub part : EnvelopePart
  pub is_tag_of : is_envelope_tag part tag ≡ true
  pub absent : envelope_held part before ≡ false
  pub made : MakesEnvelopePart part depth before tag content octets after

-- a SET of its components in any order, each at most once
pub record SpellsEnvelope (depth : ℕ) (constructed : Bool) (content : List ℕ) (v : EnvelopeFields) : Type 0 where
  pub is_constructed : constructed ≡ true
  pub parts : EnvelopeParts
  pub spelled : SpellsComponents MakesEnvelope depth no_envelope content parts
  pub destination : Attributes
  pub destination_is : parts.destination ≡ Some destination
  pub id : MtsIdFields
  pub id_is : parts.id ≡ Some id
  pub trace : List TraceFields
  pub trace_is : parts.trace ≡ Some trace
  pub value : v ≡ report_envelope destination id trace parts

-- ---- the one spelling that is written

abbrev pub envelope_content : ReportFields → List ℕ
envelope_content v =
    canonical_name (constructed 1 0) v.destination ++ canonical_id v.id ++ canonical_trace_list v.trace
    ++ canonical_ext_list (constructed 2 1) v.extensions

unfoldable pub canonical_envelope : ReportFields → List ℕ
canonical_envelope v = element (constructed 0 17) (envelope_content v)
