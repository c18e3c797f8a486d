-- Extension fields (X.411, ExtensionField): a SEQUENCE of a type, a criticality and a value.
use Rattle.std.specs.Prelude.{◌≡◌, ℕ, pos, ◌+◌, ◌*◌, ◌<◌, ◌≤◌, ◌⊎◌, Bool, true, false, IsTrue, List, [], ◌∷◌}
use Rattle.std.specs.Prelude.{◌++◌, Option, Some, None, Result, Ok, ◌&&◌, ◌||◌, if◌then◌else◌, unwrap_or}
use Rattle.std.specs.Str.{bytes_eq}
use Rattle.mta_ber.specs.declared.fault.Fault.{Fault}
use Rattle.mta_ber.specs.declared.fault.Kind.TheVariants.{BadTag}
use Rattle.mta_ber.specs.declared.tag.Tag.{Tag}
use Rattle.mta_ber.specs.Bits.{BitString, bits_in}
use Rattle.mta_ber.specs.Canon.{element, constructed, primitive}
use Rattle.mta_ber.specs.Components.{SpellsComponents}
use Rattle.mta_ber.specs.Contents.{canon_int, canon_bits}
use Rattle.mta_ber.specs.Element.{Part, explicit}
use Rattle.mta_ber.specs.Explicit.{Spells, SpellsExplicit}
use Rattle.mta_ber.specs.Forms.{is_constructed_tag, components_under}
use Rattle.mta_ber.specs.Head.{◌>>=◌, fault}
use Rattle.mta_ber.specs.Oid.{is_oid, oid_in}
use Rattle.mta_ber.specs.Parts.{is_tag, in_order, required}
use Rattle.mta_ber.specs.Segmented.{SpellsBits}
use Rattle.mta_ber.specs.Spelling.{Stands}
use Rattle.mta_names.specs.Strings.{Puts, number_in, SpellsNumber}
use Rattle.mta_fields.specs.declared.extension.ExtKind.{ExtKind}
use Rattle.mta_fields.specs.declared.extension.ExtKind.TheVariants.{Standard, Private}
use Rattle.mta_fields.specs.declared.extension.ExtFields.{ExtFields}
use Rattle.mta_fields.specs.declared.extension.ExtPart.{ExtPart}
use Rattle.mta_fields.specs.declared.extension.ExtPart.TheVariants.{ExtType, Criticality, Value}
use Rattle.mta_fields.specs.declared.extension.ExtParts.{ExtParts}
use Rattle.mta_fields.specs.Traces.{bit_if, digit}

-- ---- values

abbrev pub IsKind : ExtKind → Type 0
IsKind (Standard n) = n ≤ 32767
IsKind (Private o) = IsTrue (is_oid o)

-- one whole element, at some level
pub record IsElement (octets : List ℕ) : Type 0 where
  pub depth : ℕ
  pub tag : Tag
  pub content : List ℕ
  pub stands : Stands depth tag content octets

pub record IsExtField (v : ExtFields) : Type 0 where
  pub kind : IsKind v.kind
  pub value : IsElement v.value

-- the value that is meant where none stands: NULL
abbrev pub null : List ℕ
null = 5 ∷ 0 ∷ []

-- ---- types

abbrev pub standard_in : Part → Result ExtKind Fault
standard_in p = number_in 0 32767 p >>= λ n. Ok (Standard n)

abbrev pub private_in : Part → Result ExtKind Fault
private_in p = oid_in p >>= λ o. Ok (Private o)

-- an INTEGER [0] or an object identifier [3]
unfoldable pub plain_kind_in : Part → Result ExtKind Fault
plain_kind_in p = if is_tag 2 0 p.tag then standard_in p else if is_tag 2 3 p.tag then private_in p
    else fault p.at BadTag

-- or one of these inside one further [0]
unfoldable pub kind_in : Part → Result ExtKind Fault
kind_in p = if is_tag 2 0 p.tag && p.tag.constructed then explicit plain_kind_in p else plain_kind_in p

abbrev pub SpellsPlainKind : Spells ExtKind
SpellsPlainKind depth tag content octets (Standard n) = (is_tag 2 0 tag ≡ true)
    × SpellsNumber 0 32767 tag.constructed content n
SpellsPlainKind depth tag content octets (Private o) = (is_tag 2 3 tag ≡ true) × (tag.constructed ≡ false)
    × (o ≡ content) × IsTrue (is_oid o)

abbrev pub SpellsKind : Spells ExtKind
SpellsKind depth tag content octets k = SpellsPlainKind depth tag content octets k
    ⊎ ((is_tag 2 0 tag ≡ true) × SpellsExplicit SpellsPlainKind depth tag.constructed content k)

-- ---- components

abbrev pub ext_part_of : Tag → Option ExtPart
ext_part_of t =
    if is_tag 2 0 t || is_tag 2 3 t then Some ExtType
    else if is_tag 2 1 t then Some Criticality
    else if is_tag 2 2 t then Some Value
    else None

abbrev pub is_ext_tag : ExtPart → Tag → Bool
is_ext_tag ExtType t = is_tag 2 0 t || is_tag 2 3 t
is_ext_tag Criticality t = is_tag 2 1 t
is_ext_tag Value t = is_tag 2 2 t

abbrev pub ext_place : ExtPart → ℕ
ext_place ExtType = 1
ext_place Criticality = 2
ext_place Value = 3

-- the type has to stand before the others
abbrev pub ext_needed : ExtPart → ℕ
ext_needed ExtType = 0
ext_needed _ = 1

abbrev pub with_kind : ExtParts → ExtKind → ExtParts
with_kind s x = record s { last = 1; kind = Some x }

abbrev pub with_criticality : ExtParts → BitString → ExtParts
with_criticality s x = record s { last = 2; criticality = Some x }

abbrev pub with_value : ExtParts → List ℕ → ExtParts
with_value s x = record s { last = 3; value = Some x }

-- the octets of one whole element
abbrev pub whole_in : Part → Result (List ℕ) Fault
whole_in p = Ok p.octets

abbrev pub ext_part_in : ExtPart → ExtParts → Part → Result ExtParts Fault
ext_part_in ExtType s p = kind_in p >>= λ x. Ok (with_kind s x)
ext_part_in Criticality s p = bits_in p >>= λ x. Ok (with_criticality s x)
ext_part_in Value s p = explicit whole_in p >>= λ x. Ok (with_value s x)

abbrev pub ext_step_of : Option ExtPart → ExtParts → Part → Result ExtParts Fault
ext_step_of None s p = fault p.at BadTag
ext_step_of (Some k) s p = in_order s.last (ext_needed k) (ext_place k) p.at (ext_part_in k s p)

unfoldable pub ext_step : ExtParts → Part → Result ExtParts Fault
ext_step s p = ext_step_of (ext_part_of p.tag) s p

abbrev pub no_ext : ExtParts
no_ext = record { last = 0; kind = None; criticality = None; value = None }

abbrev pub ext_field : ExtKind → ExtParts → ExtFields
ext_field kind s = record {
  kind = kind;
  submission = bit_if s.criticality 0;
  transfer = bit_if s.criticality 1;
  delivery = bit_if s.criticality 2;
  value = unwrap_or s.value null;
}

unfoldable pub ext_in : Part → Result ExtFields Fault
ext_in p = components_under 0 16 ext_step no_ext p >>= λ s. required s.kind p.at >>= λ k. Ok (ext_field k s)

-- ---- what spells a field

abbrev pub SpellsWhole : Spells (List ℕ)
SpellsWhole depth tag content octets x = x ≡ octets

abbrev pub MakesExtPart : ExtPart → ℕ → ExtParts → Tag → List ℕ → List ℕ → ExtParts → Type 0
MakesExtPart ExtType depth s tag content octets after = Puts (SpellsKind depth tag content octets) (with_kind s) after
MakesExtPart Criticality depth s tag content octets after =
    Puts (SpellsBits depth tag.constructed content) (with_criticality s) after
MakesExtPart Value depth s tag content octets after = Puts (SpellsExplicit SpellsWhole depth tag.constructed content)
    (with_value s) after

pub record MakesExt (depth : ℕ) (before : ExtParts) (tag : Tag) (content octets : List ℕ)
    (after : ExtParts) : Type 0 where
  pub part : ExtPart
  pub is_tag_of : is_ext_tag part tag ≡ true
  pub needed : ext_needed part ≤ before.last
  pub behind : before.last < ext_place part
  pub made : MakesExtPart part depth before tag content octets after

-- a SEQUENCE of its components in their order; of the criticality the first three bits count
pub record SpellsExtField (depth : ℕ) (tag : Tag) (content : List ℕ) (v : ExtFields) : Type 0 where
  pub is_tag_of : is_constructed_tag 0 16 tag ≡ true
  pub parts : ExtParts
  pub spelled : SpellsComponents MakesExt depth no_ext content parts
  pub kind : parts.kind ≡ Some v.kind
  pub value_is : v ≡ ext_field v.kind parts

-- ---- the one spelling that is written: no criticality where no bit is set, and no value that is NULL

abbrev pub canonical_kind : ExtKind → List ℕ
canonical_kind (Standard n) = canon_int (primitive 2 0) (pos n)
canonical_kind (Private o) = element (primitive 2 3) o

abbrev pub three_bits : Bool → Bool → Bool → BitString
three_bits a b c = record { count = 3; word = 4 * digit a + 2 * digit b + digit c }

abbrev pub canonical_criticality : Bool → Bool → Bool → List ℕ
canonical_criticality a b c = if a || b || c then canon_bits (primitive 2 1) (three_bits a b c) else []

abbrev pub canonical_value : List ℕ → List ℕ
canonical_value v = if bytes_eq v null then [] else element (constructed 2 2) v

abbrev pub ext_content : ExtFields → List ℕ
ext_content v = canonical_kind v.kind ++ canonical_criticality v.submission v.transfer v.delivery
    ++ canonical_value v.value

unfoldable pub canonical_ext : ExtFields → List ℕ
canonical_ext v = element (constructed 0 16) (ext_content v)
