-- The envelope of a message or a probe: a SET of its components in any order, each at most once.
use Rattle.std.specs.Prelude.{◌≡◌, ℕ, pos, ◌≤◌, Bool, true, false, List, [], ◌∷◌, ◌++◌, length, Option, Some, None}
use Rattle.std.specs.Prelude.{IfSome, IsSome, is_some, Result, Ok, ◌==◌, ◌&&◌, if◌then◌else◌, unwrap_or}
use Rattle.mta_ber.specs.declared.fault.Fault.{Fault}
use Rattle.mta_ber.specs.Bits.{BitString}
use Rattle.mta_ber.specs.Canon.{constructed, primitive, optional}
use Rattle.mta_ber.specs.Components.{SpellsComponents}
use Rattle.mta_ber.specs.Contents.{canon_int, canon_utc}
use Rattle.mta_ber.specs.Element.{Part}
use Rattle.mta_ber.specs.Head.{◌>>=◌}
use Rattle.mta_ber.specs.Parts.{components, required}
use Rattle.mta_ber.specs.Times.{last_moment}
use Rattle.mta_names.specs.declared.attributes.Attributes.{Attributes}
use Rattle.mta_names.specs.Names.{canonical_name, kept}
use Rattle.mta_names.specs.Values.{IsRaw}
use Rattle.mta_fields.specs.declared.expansion.ExpansionFields.{ExpansionFields}
use Rattle.mta_fields.specs.declared.extension.ExtFields.{ExtFields}
use Rattle.mta_fields.specs.declared.identifier.MtsIdFields.{MtsIdFields}
use Rattle.mta_fields.specs.declared.trace.TraceFields.{TraceFields}
use Rattle.mta_fields.specs.Identifiers.{canonical_id}
use Rattle.mta_envelope_common.specs.declared.kind.ContentKind.{ContentKind}
use Rattle.mta_envelope_common.specs.ContentIdentifiers.{IsContentId, canonical_content_id}
use Rattle.mta_envelope_common.specs.ContentKinds.{IsContentKind, kind_in_front, kind_in_place}
use Rattle.mta_envelope_common.specs.ExtensionLists.{canonical_ext_list}
use Rattle.mta_envelope_common.specs.Indicators.{IsIndicators, canonical_indicators}
use Rattle.mta_envelope_common.specs.TraceLists.{canonical_trace_list}
use Rattle.mta_envelope_extensions.specs.declared.extensions.Extensions.{Extensions}
use Rattle.mta_envelope_extensions.specs.Told.{no_extensions, AreTold}
use Rattle.mta_envelope_recipient.specs.declared.recipient.RecipientFields.{RecipientFields}
use Rattle.mta_envelope_recipient.specs.Lists.{canonical_recipients}
use Rattle.mta_envelope.specs.declared.priority.Priority.{Priority}
use Rattle.mta_envelope.specs.declared.priority.Priority.TheVariants.{Normal}
use Rattle.mta_envelope.specs.declared.parts.EnvelopeParts.{EnvelopeParts}
use Rattle.mta_envelope.specs.declared.envelope.EnvelopeFields.{EnvelopeFields}
use Rattle.mta_envelope.specs.Components.{longest, envelope_step, no_envelope, MakesEnvelope}
use Rattle.mta_envelope.specs.Priorities.{canonical_priority}

-- ---- values

-- an empty history is one that no field tells
abbrev pub told_history : List ExpansionFields → Option (List ExpansionFields)
told_history [] = None
told_history (x ∷ xs) = Some (x ∷ xs)

-- history, latest delivery time and prohibition are what the kept extension fields say
pub record IsSaid (fields : List ExtFields) (history : List ExpansionFields) (latest : Option ℕ)
    (prohibited : Bool) : Type 0 where
  pub prohibition : Option Bool
  pub prohibited_is : prohibited ≡ unwrap_or prohibition false
  pub told : AreTold (record {
    fields = fields;
    history = told_history history;
    latest = latest;
    prohibited =
        prohibition;
  })

pub record IsEnvelope (v : EnvelopeFields) : Type 0 where
  pub eits : IfSome v.eits (IsRaw 1 5)
  pub content_kind : IsContentKind v.content_kind
  pub content_id : IfSome v.content_id IsContentId
  pub indicators : IsIndicators v.indicators
  pub deferral : IfSome v.deferral (λ m. m ≤ last_moment)
  pub length_fits : IfSome v.length (λ n. n ≤ longest)
  pub bilateral : IfSome v.bilateral (IsRaw 2 1)
  pub some_recipients : 1 ≤ length v.recipients
  pub few_recipients : length v.recipients ≤ 32767
  pub few_elements : length v.trace ≤ 512
  pub said : IsSaid v.extensions v.history v.latest v.dl_prohibited

-- the envelope of a message has no content length, and that of a probe neither a priority nor a deferred delivery time
pub record IsOfProbe (v : EnvelopeFields) : Type 0 where
  pub no_priority : v.priority ≡ Normal
  pub no_deferral : v.deferral ≡ None

abbrev pub IsOfKind : Bool → EnvelopeFields → Type 0
IsOfKind true v = IsOfProbe v
IsOfKind false v = v.length ≡ None

-- ---- what stands for components that are absent

abbrev pub told_or_none : Option Extensions → Extensions
told_or_none o = unwrap_or o no_extensions

abbrev pub history_or_none : Option (List ExpansionFields) → List ExpansionFields
history_or_none o = unwrap_or o []

abbrev pub eight_zeros : BitString
eight_zeros = record { count = 8; word = 0 }

abbrev pub indicators_or_none : Option BitString → BitString
indicators_or_none o = unwrap_or o eight_zeros

abbrev pub priority_or_normal : Option Priority → Priority
priority_or_normal o = unwrap_or o Normal

abbrev pub envelope : Attributes → MtsIdFields → ContentKind → List TraceFields → List RecipientFields
    → EnvelopeParts
    → EnvelopeFields
envelope originator id content_kind trace recipients s = record {
  id = id;
  originator = originator;
  eits = s.eits;
  content_kind = content_kind;
  content_id = s.content_id;
  priority = priority_or_normal s.priority;
  indicators = indicators_or_none s.indicators;
  deferral = s.deferral;
  length = s.length;
  bilateral = s.bilateral;
  recipients = recipients;
  trace = trace;
  extensions = (told_or_none s.extensions).fields;
  history = history_or_none (told_or_none s.extensions).history;
  latest = (told_or_none s.extensions).latest;
  dl_prohibited = unwrap_or (told_or_none s.extensions).prohibited false;
}

-- ---- reading

abbrev pub has_required : EnvelopeParts → Bool
has_required s = is_some s.originator &&
    (is_some s.id && (is_some s.content_kind && (is_some s.trace && is_some s.recipients)))

pub record HasRequired (s : EnvelopeParts) : Type 0 where
  pub originator : IsSome s.originator
  pub id : IsSome s.id
  pub content_kind : IsSome s.content_kind
  pub trace : IsSome s.trace
  pub recipients : IsSome s.recipients

-- the envelope that these components are
pub record IsEnvelopeOf (s : EnvelopeParts) (v : EnvelopeFields) : Type 0 where
  pub originator : s.originator ≡ Some v.originator
  pub id : s.id ≡ Some v.id
  pub content_kind : s.content_kind ≡ Some v.content_kind
  pub trace : s.trace ≡ Some v.trace
  pub recipients : s.recipients ≡ Some v.recipients
  pub value : v ≡ envelope v.originator v.id v.content_kind v.trace v.recipients s

-- with the required components there
abbrev pub finished : ℕ → EnvelopeParts → Result EnvelopeFields Fault
finished at s =
    required s.originator at >>= λ o.
    required s.id at >>= λ i.
    required s.content_kind at >>= λ k.
    required s.trace at >>= λ t.
    required s.recipients at >>= λ r.
    Ok (envelope o i k t r s)

-- the envelope of a probe, or that of a message
unfoldable pub envelope_in : Bool → Part → Result EnvelopeFields Fault
envelope_in probe p = components envelope_step (no_envelope probe) p >>= finished p.at

-- ---- what spells an envelope

pub record SpellsEnvelope (probe : Bool) (depth : ℕ) (constructed : Bool) (content : List ℕ)
    (v : EnvelopeFields) : Type 0 where
  pub is_constructed : constructed ≡ true
  pub parts : EnvelopeParts
  pub spelled : SpellsComponents MakesEnvelope depth (no_envelope probe) content parts
  pub originator : parts.originator ≡ Some v.originator
  pub id : parts.id ≡ Some v.id
  pub content_kind : parts.content_kind ≡ Some v.content_kind
  pub trace : parts.trace ≡ Some v.trace
  pub recipients : parts.recipients ≡ Some v.recipients
  pub value : v ≡ envelope v.originator v.id v.content_kind v.trace v.recipients parts

-- ---- the one spelling that is written: the components in the order of their tags, and none that equals its default

abbrev pub canonical_or_none : BitString → List ℕ
canonical_or_none b = if (b.count == 8) && (b.word == 0) then [] else canonical_indicators (primitive 1 8) b

abbrev pub canonical_deferral : ℕ → List ℕ
canonical_deferral m = canon_utc (primitive 2 0) m

abbrev pub canonical_length : ℕ → List ℕ
canonical_length n = canon_int (primitive 2 0) (pos n)

unfoldable pub envelope_front : EnvelopeFields → List ℕ
envelope_front v =
    kind_in_front v.content_kind ++ canonical_name (constructed 1 0) v.originator ++ canonical_id v.id
    ++ optional kept v.eits ++ kind_in_place v.content_kind ++ canonical_priority v.priority

unfoldable pub envelope_middle : EnvelopeFields → List ℕ
envelope_middle v = canonical_or_none v.indicators ++ canonical_trace_list v.trace
    ++ optional canonical_content_id v.content_id

unfoldable pub envelope_back : EnvelopeFields → List ℕ
envelope_back v =
    optional canonical_deferral v.deferral ++ optional canonical_length v.length ++ optional kept v.bilateral
    ++ canonical_recipients v.recipients ++ canonical_ext_list (constructed 2 3) v.extensions

unfoldable pub envelope_content : EnvelopeFields → List ℕ
envelope_content v = envelope_front v ++ envelope_middle v ++ envelope_back v
