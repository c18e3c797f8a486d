-- Extension attributes (X.411, ExtensionAttributes): a SET of SEQUENCEs of a type and a value, which stands in an
-- explicit tag. Type 1 is the common name; of the others the whole element of that tag is kept.
use Rattle.std.specs.Prelude.{◌≡◌, ℕ, zero, suc, pos, ◌+◌, ◌≤◌, ◌⊎◌, Bool, true, false, List, [], ◌∷◌, ◌++◌}
use Rattle.std.specs.Prelude.{length, Option, Some, None, is_some, Result, Ok, ◌==◌, ◌&&◌, if◌then◌else◌}
use Rattle.std.specs.List.{flat_map}
use Rattle.mta_ber.specs.declared.fault.Fault.{Fault}
use Rattle.mta_ber.specs.declared.fault.Kind.TheVariants.{BadTag, BadSize, Twice}
use Rattle.mta_ber.specs.declared.tag.Tag.{Tag}
use Rattle.mta_ber.specs.declared.text.TextClass.TheVariants.{Printable}
use Rattle.mta_ber.specs.Canon.{element, constructed, primitive, optional}
use Rattle.mta_ber.specs.Components.{Makes, SpellsComponents}
use Rattle.mta_ber.specs.Contents.{canon_int}
use Rattle.mta_ber.specs.Element.{Part, explicit}
use Rattle.mta_ber.specs.Explicit.{Spells, SpellsExplicit}
use Rattle.mta_ber.specs.Forms.{is_constructed_tag}
use Rattle.mta_ber.specs.Head.{◌>>=◌, fault}
use Rattle.mta_ber.specs.Parts.{components, is_tag, required}
use Rattle.mta_ber.specs.Segmented.{SpellsText}
use Rattle.mta_ber.specs.Strings.{between, text_in, IsText}
use Rattle.mta_names.specs.declared.attributes.Attribute.{Attribute}
use Rattle.mta_names.specs.declared.attributes.Attribute.TheVariants.{Common, Other}
use Rattle.mta_names.specs.declared.attributes.ExtraFields.{ExtraFields}
use Rattle.mta_names.specs.declared.extension.AttributeFields.{AttributeFields}
use Rattle.mta_names.specs.declared.extension.AttributeValue.{AttributeValue}
use Rattle.mta_names.specs.declared.extension.AttributeValue.TheVariants.{Name, Raw}
use Rattle.mta_names.specs.declared.extension.AttributeParts.{AttributeParts}
use Rattle.mta_names.specs.declared.extension.ExtensionParts.{ExtensionParts}
use Rattle.mta_names.specs.Lists.{is_printable, is_sequence, canonical_printable}
use Rattle.mta_names.specs.Strings.{number_in, SpellsNumber, Puts}
use Rattle.mta_names.specs.Values.{count_of, IsExtra}

-- ---- one attribute

-- the common name
abbrev pub common_choice : Part → Result (List ℕ) Fault
common_choice p = if is_printable p.tag then text_in Printable 1 64 p else fault p.at BadTag

-- a common name is read, and what another type has is kept
unfoldable pub value_in : ℕ → Part → Result AttributeValue Fault
value_in n p = if n == 1 then (explicit common_choice p >>= λ t. Ok (Name t)) else Ok (Raw p.octets)

-- a common name that is there already is a fault of the whole attribute, as soon as its type was read
abbrev pub typed : AttributeParts → ℕ → Result AttributeParts Fault
typed s n = if (n == 1) && s.taken then fault s.at Twice else Ok (record s { number = Some n })

abbrev pub type_in : AttributeParts → Part → Result AttributeParts Fault
type_in s p = if is_some s.number then fault p.at BadTag else (number_in 0 32767 p >>= typed s)

abbrev pub valued : AttributeParts → Option ℕ → Part → Result AttributeParts Fault
valued s None p = fault p.at BadTag
valued s (Some n) p = if is_some s.value then fault p.at BadTag
    else (value_in n p >>= λ v. Ok (record s { value = Some v }))

-- an explicit tag is constructed (X.690, 8.14), so a primitive value is none, also where it would be kept
unfoldable pub attribute_step : AttributeParts → Part → Result AttributeParts Fault
attribute_step s p =
    if is_tag 2 0 p.tag then type_in s p
    else if is_constructed_tag 2 1 p.tag then valued s s.number p
    else fault p.at BadTag

abbrev pub no_attribute : Bool → ℕ → AttributeParts
no_attribute taken at = record { taken = taken; at = at; number = None; value = None }

abbrev pub attribute_fields : ℕ → AttributeValue → AttributeFields
attribute_fields n v = record { number = n; value = v }

-- a type and a value, where `taken` says whether a common name is there already
unfoldable pub attribute_parts_in : Bool → Part → Result AttributeFields Fault
attribute_parts_in taken p =
    components attribute_step (no_attribute taken p.at) p >>= λ s. required s.number p.at
    >>= λ n. required s.value p.at >>= λ v. Ok (attribute_fields n v)

-- what a value of a type makes: a common name, or an attribute that is kept
abbrev pub attribute_as : ℕ → AttributeValue → Attribute
attribute_as n (Name t) = Common t
attribute_as n (Raw o) = Other (record { number = n; raw = o })

abbrev pub attribute : AttributeFields → Attribute
attribute f = attribute_as f.number f.value

-- a common name is of type 1, and what is kept is of another
abbrev pub IsAttributeOf : ℕ → AttributeValue → Type 0
IsAttributeOf n (Name t) = (n ≡ 1) × IsText Printable 1 64 t
IsAttributeOf n (Raw o) = IsExtra (record { number = n; raw = o })

abbrev pub IsAttribute : AttributeFields → Type 0
IsAttribute f = IsAttributeOf f.number f.value

-- an attribute
unfoldable pub attribute_in : Bool → Part → Result Attribute Fault
attribute_in taken p = attribute_parts_in taken p >>= λ f. Ok (attribute f)

-- ---- all attributes

abbrev pub with_attribute : Attribute → ExtensionParts → ExtensionParts
with_attribute (Common t) s = record s { common = Some t }
with_attribute (Other e) s = record s { extras = s.extras ++ e ∷ [] }

abbrev pub answer : ExtensionParts → Result ExtensionParts Fault
answer s = Ok s

unfoldable pub extension_step : ExtensionParts → Part → Result ExtensionParts Fault
extension_step s p = if is_sequence p.tag then (attribute_in (is_some s.common) p >>= λ e. Ok (with_attribute e s))
    else fault p.at BadTag

abbrev pub no_extensions : ExtensionParts
no_extensions = record { common = None; extras = [] }

abbrev pub extension_count : ExtensionParts → ℕ
extension_count s = count_of s.common + length s.extras

unfoldable pub extensions_in : Part → Result ExtensionParts Fault
extensions_in p = components extension_step no_extensions p >>= λ s. if between 1 256 (extension_count s) then Ok s
    else fault p.at BadSize

-- ---- what spells them

abbrev pub SpellsPrintable : ℕ → ℕ → Spells (List ℕ)
SpellsPrintable low high depth tag content octets t = (is_printable tag ≡ true)
    × SpellsText Printable low high depth tag.constructed content t

-- the value of an attribute: an explicit tag around a common name, which is of type 1, or around anything
abbrev pub SpellsAttributeValue : Bool → ℕ → Tag → List ℕ → List ℕ → AttributeValue → Type 0
SpellsAttributeValue common depth tag content octets (Name t) = (common ≡ true)
    × SpellsExplicit (SpellsPrintable 1 64) depth tag.constructed content t
SpellsAttributeValue common depth tag content octets (Raw o) = (common ≡ false) × (o ≡ octets)

pub record MakesType (before : AttributeParts) (tag : Tag) (content : List ℕ) (after : AttributeParts) : Type 0 where
  pub is_tag_of : is_tag 2 0 tag ≡ true
  pub absent : before.number ≡ None
  pub number : ℕ
  pub spelled : SpellsNumber 0 32767 tag.constructed content number
  pub once_only : ((number == 1) && before.taken) ≡ false
  pub after_is : after ≡ record before { number = Some number }

pub record MakesAttributeValue (depth : ℕ) (before : AttributeParts) (tag : Tag) (content octets : List ℕ)
    (after : AttributeParts) : Type 0 where
  pub is_tag_of : is_constructed_tag 2 1 tag ≡ true
  pub number : ℕ
  pub typed_so : before.number ≡ Some number
  pub absent : before.value ≡ None
  pub puts : Puts (SpellsAttributeValue (number == 1) depth tag content octets)
      (λ v. record before { value = Some v }) after

abbrev pub MakesAttribute : Makes AttributeParts
MakesAttribute depth before tag content octets after = MakesType before tag content after
    ⊎ MakesAttributeValue depth before tag content octets after

-- a SEQUENCE of a type and a value; the offset plays no part in what it spells
pub record SpellsAttributeFields (taken : Bool) (depth : ℕ) (constructed : Bool) (content : List ℕ)
    (f : AttributeFields) : Type 0 where
  pub is_constructed : constructed ≡ true
  pub at : ℕ
  pub parts : AttributeParts
  pub spelled : SpellsComponents MakesAttribute depth (no_attribute taken at) content parts
  pub number : parts.number ≡ Some f.number
  pub value : parts.value ≡ Some f.value

pub record SpellsAttribute (taken : Bool) (depth : ℕ) (constructed : Bool) (content : List ℕ)
    (a : Attribute) : Type 0 where
  pub fields : AttributeFields
  pub spelled : SpellsAttributeFields taken depth constructed content fields
  pub attribute_is : a ≡ attribute fields

pub record MakesExtension (depth : ℕ) (before : ExtensionParts) (tag : Tag) (content octets : List ℕ)
    (after : ExtensionParts) : Type 0 where
  pub is_sequence_tag : is_sequence tag ≡ true
  pub puts : Puts (SpellsAttribute (is_some before.common) depth tag.constructed content)
      (λ e. with_attribute e before) after

-- a SET of 1 to 256 attributes, of which one at most is a common name
pub record SpellsExtensions (depth : ℕ) (constructed : Bool) (content : List ℕ) (s : ExtensionParts) : Type 0 where
  pub is_constructed : constructed ≡ true
  pub spelled : SpellsComponents MakesExtension depth no_extensions content s
  pub at_least : 1 ≤ extension_count s
  pub at_most : extension_count s ≤ 256

-- ---- the one spelling that is written: the common name first, then the others in the order held

abbrev pub canonical_attribute : ℕ → List ℕ → List ℕ
canonical_attribute n value = element (constructed 0 16) (canon_int (primitive 2 0) (pos n) ++ value)

abbrev pub canonical_common : List ℕ → List ℕ
canonical_common t = canonical_attribute 1 (element (constructed 2 1) (canonical_printable t))

abbrev pub canonical_extra : ExtraFields → List ℕ
canonical_extra e = canonical_attribute e.number e.raw

abbrev pub unless_empty : ℕ → List ℕ → List ℕ
unless_empty zero content = []
unless_empty (suc n) content = element (constructed 0 17) content

abbrev pub canonical_extensions : ExtensionParts → List ℕ
canonical_extensions s = unless_empty (extension_count s)
    (optional canonical_common s.common ++ flat_map canonical_extra s.extras)
