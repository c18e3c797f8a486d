-- One extension field of an envelope (X.411, ExtensionField): a SEQUENCE of a type, a criticality and a value. The
-- value of a topic that is read has to be there, and stands in one field alone.
use Rattle.std.specs.Prelude.{◌≡◌, ℕ, ◌<◌, ◌≤◌, Bool, true, false, List, Option}
use Rattle.std.specs.Prelude.{Some, None, Result, Ok, ◌||◌, if◌then◌else◌}
use Rattle.mta_ber.specs.declared.fault.Fault.{Fault}
use Rattle.mta_ber.specs.declared.fault.Kind.TheVariants.{BadTag, Missing, Twice}
use Rattle.mta_ber.specs.declared.tag.Tag.{Tag}
use Rattle.mta_ber.specs.Bits.{BitString, bits_in}
use Rattle.mta_ber.specs.Components.{SpellsComponents}
use Rattle.mta_ber.specs.Element.{Part, explicit}
use Rattle.mta_ber.specs.Explicit.{SpellsExplicit}
use Rattle.mta_ber.specs.Head.{◌>>=◌, fault}
use Rattle.mta_ber.specs.Parts.{components, is_tag, in_order, required}
use Rattle.mta_ber.specs.Segmented.{SpellsBits}
use Rattle.mta_names.specs.Strings.{Puts}
use Rattle.mta_fields.specs.declared.extension.ExtKind.{ExtKind}
use Rattle.mta_fields.specs.ExtensionFields.{null, kind_in, SpellsKind}
use Rattle.mta_fields.specs.Traces.{bit_if}
use Rattle.mta_envelope_extensions.specs.declared.value.Topic.{Topic}
use Rattle.mta_envelope_extensions.specs.declared.value.Topic.TheVariants.{ExpansionHistory, LatestDelivery}
use Rattle.mta_envelope_extensions.specs.declared.value.Topic.TheVariants.{ExpansionProhibited, Other}
use Rattle.mta_envelope_extensions.specs.declared.value.Said.TheVariants.{Unread}
use Rattle.mta_envelope_extensions.specs.declared.value.ExtValue.{ExtValue}
use Rattle.mta_envelope_extensions.specs.declared.field.Held.{Held}
use Rattle.mta_envelope_extensions.specs.declared.field.Told.{Told}
use Rattle.mta_envelope_extensions.specs.declared.field.FieldPart.{FieldPart}
use Rattle.mta_envelope_extensions.specs.declared.field.FieldPart.TheVariants.{FieldType, Criticality, FieldValue}
use Rattle.mta_envelope_extensions.specs.declared.field.FieldParts.{FieldParts}
use Rattle.mta_envelope_extensions.specs.Topics.{topic_of, value_said, ext_value, SpellsValue}

abbrev pub is_held : Topic → Held → Bool
is_held ExpansionHistory h = h.history
is_held LatestDelivery h = h.latest
is_held ExpansionProhibited h = h.prohibited
is_held Other h = false

abbrev pub field_part_of : Tag → Option FieldPart
field_part_of t =
    if is_tag 2 0 t || is_tag 2 3 t then Some FieldType
    else if is_tag 2 1 t then Some Criticality
    else if is_tag 2 2 t then Some FieldValue
    else None

abbrev pub is_field_tag : FieldPart → Tag → Bool
is_field_tag FieldType t = is_tag 2 0 t || is_tag 2 3 t
is_field_tag Criticality t = is_tag 2 1 t
is_field_tag FieldValue t = is_tag 2 2 t

abbrev pub field_place : FieldPart → ℕ
field_place FieldType = 1
field_place Criticality = 2
field_place FieldValue = 3

-- the type has to stand before the others
abbrev pub field_needed : FieldPart → ℕ
field_needed FieldType = 0
field_needed _ = 1

abbrev pub with_kind : FieldParts → ExtKind → FieldParts
with_kind s x = record s { last = 1; kind = Some x }

abbrev pub with_criticality : FieldParts → BitString → FieldParts
with_criticality s x = record s { last = 2; criticality = Some x }

abbrev pub with_value : FieldParts → ExtValue → FieldParts
with_value s x = record s { last = 3; value = Some x }

-- a topic that is there already is a fault of the whole field, as soon as its type was read
abbrev pub typed : FieldParts → ExtKind → Result FieldParts Fault
typed s k = if is_held (topic_of k) s.held then fault s.at Twice else Ok (with_kind s k)

abbrev pub type_in : FieldParts → Part → Result FieldParts Fault
type_in s p = kind_in p >>= typed s

abbrev pub valued : FieldParts → Option ExtKind → Part → Result FieldParts Fault
valued s None p = fault p.at BadTag
valued s (Some k) p = explicit (value_said (topic_of k)) p >>= λ x. Ok (with_value s x)

abbrev pub field_part_in : FieldPart → FieldParts → Part → Result FieldParts Fault
field_part_in FieldType s p = type_in s p
field_part_in Criticality s p = bits_in p >>= λ x. Ok (with_criticality s x)
field_part_in FieldValue s p = valued s s.kind p

abbrev pub field_step_of : Option FieldPart → FieldParts → Part → Result FieldParts Fault
field_step_of None s p = fault p.at BadTag
field_step_of (Some k) s p = in_order s.last (field_needed k) (field_place k) p.at (field_part_in k s p)

unfoldable pub field_step : FieldParts → Part → Result FieldParts Fault
field_step s p = field_step_of (field_part_of p.tag) s p

abbrev pub no_field : Held → ℕ → FieldParts
no_field held at = record { held = held; at = at; last = 0; kind = None; criticality = None; value = None }

-- NULL stands for a value that is absent, but for one that is read
abbrev pub null_of : Topic → ℕ → Result ExtValue Fault
null_of Other at = Ok (ext_value null Unread)
null_of _ at = fault at Missing

abbrev pub value_or : Topic → Option ExtValue → ℕ → Result ExtValue Fault
value_or topic (Some v) at = Ok v
value_or topic None at = null_of topic at

abbrev pub told : ExtKind → FieldParts → ExtValue → Told
told kind s v = record {
  field = record {
    kind = kind;
    submission = bit_if s.criticality 0;
    transfer = bit_if s.criticality 1;
    delivery =
        bit_if s.criticality 2;
    value = v.octets;
  };
  said = v.said;
}

-- a field, where `held` says which topics are there already
unfoldable pub field_in : Held → Part → Result Told Fault
field_in held p = components field_step (no_field held p.at) p >>= λ s. required s.kind p.at >>= λ k. value_or
    (topic_of k) s.value p.at >>= λ v. Ok (told k s v)

-- ---- what spells a field

-- a type whose topic is not there yet
pub record MakesFieldType (depth : ℕ) (before : FieldParts) (tag : Tag) (content octets : List ℕ)
    (after : FieldParts) : Type 0 where
  pub kind : ExtKind
  pub spelled : SpellsKind depth tag content octets kind
  pub first : is_held (topic_of kind) before.held ≡ false
  pub after_is : after ≡ with_kind before kind

-- a value of the type that stood before
pub record MakesFieldValue (depth : ℕ) (before : FieldParts) (tag : Tag) (content octets : List ℕ)
    (after : FieldParts) : Type 0 where
  pub kind : ExtKind
  pub kind_is : before.kind ≡ Some kind
  pub puts : Puts (SpellsExplicit (SpellsValue (topic_of kind)) depth tag.constructed content) (with_value before) after

abbrev pub MakesFieldPart : FieldPart → ℕ → FieldParts → Tag → List ℕ → List ℕ → FieldParts → Type 0
MakesFieldPart FieldType depth s tag content octets after = MakesFieldType depth s tag content octets after
MakesFieldPart Criticality depth s tag content octets after =
    Puts (SpellsBits depth tag.constructed content) (with_criticality s) after
MakesFieldPart FieldValue depth s tag content octets after = MakesFieldValue depth s tag content octets after

pub record MakesField (depth : ℕ) (before : FieldParts) (tag : Tag) (content octets : List ℕ)
    (after : FieldParts) : Type 0 where
  pub part : FieldPart
  pub is_tag_of : is_field_tag part tag ≡ true
  pub needed : field_needed part ≤ before.last
  pub behind : before.last < field_place part
  pub made : MakesFieldPart part depth before tag content octets after

-- the value that a field has: the one that stands there, or NULL, but not for one that is read
abbrev pub IsNull : Topic → ExtValue → Type 0
IsNull Other v = v ≡ ext_value null Unread
IsNull _ v = ⊥

abbrev pub IsValue : Topic → Option ExtValue → ExtValue → Type 0
IsValue topic (Some w) v = v ≡ w
IsValue topic None v = IsNull topic v

-- a SEQUENCE of its components in their order; of the criticality the first three bits count, and the offset plays no
-- part
pub record SpellsField (held : Held) (depth : ℕ) (constructed : Bool) (content : List ℕ) (t : Told) : Type 0 where
  pub is_constructed : constructed ≡ true
  pub at : ℕ
  pub parts : FieldParts
  pub spelled : SpellsComponents MakesField depth (no_field held at) content parts
  pub kind : parts.kind ≡ Some t.field.kind
  pub value : ExtValue
  pub value_is : IsValue (topic_of t.field.kind) parts.value value
  pub told_is : t ≡ told t.field.kind parts value
