-- Recipients (X.411, PerRecipientMessageTransferFields): a SET of a name, the number that the originator gave,
-- indicators, an explicit conversion and extensions.
use Rattle.std.specs.Prelude.{◌≡◌, ℕ, pos, ◌≤◌, Bool, true, List, [], ◌++◌, Option, Some}
use Rattle.std.specs.Prelude.{None, IfSome, Result, Ok, if◌then◌else◌, unwrap_or}
use Rattle.mta_ber.specs.declared.fault.Fault.{Fault}
use Rattle.mta_ber.specs.declared.fault.Kind.TheVariants.{BadTag}
use Rattle.mta_ber.specs.declared.tag.Tag.{Tag}
use Rattle.mta_ber.specs.Bits.{BitString}
use Rattle.mta_ber.specs.Canon.{element, constructed, primitive, optional}
use Rattle.mta_ber.specs.Components.{SpellsComponents}
use Rattle.mta_ber.specs.Contents.{canon_int}
use Rattle.mta_ber.specs.Element.{Part}
use Rattle.mta_ber.specs.Forms.{is_primitive_tag, is_constructed_tag, components_under}
use Rattle.mta_ber.specs.Head.{◌>>=◌, fault}
use Rattle.mta_ber.specs.Parts.{is_tag, once, required}
use Rattle.mta_names.specs.declared.attributes.Attributes.{Attributes}
use Rattle.mta_names.specs.Names.{name_in, SpellsName, canonical_name, kept}
use Rattle.mta_names.specs.Strings.{Puts, number_in, SpellsNumber}
use Rattle.mta_names.specs.Values.{IsRaw}
use Rattle.mta_fields.specs.declared.extension.ExtFields.{ExtFields}
use Rattle.mta_fields.specs.Traces.{raw_in}
use Rattle.mta_envelope_common.specs.ExtensionLists.{ext_list_in, SpellsExtList, canonical_ext_list}
use Rattle.mta_envelope_common.specs.Indicators.{IsIndicators, indicators_in, SpellsIndicators, canonical_indicators}
use Rattle.mta_envelope_recipient.specs.declared.recipient.RecipientFields.{RecipientFields}
use Rattle.mta_envelope_recipient.specs.declared.parts.RecipientPart.{RecipientPart}
use Rattle.mta_envelope_recipient.specs.declared.parts.RecipientPart.TheVariants.{Addressee, Number, Indicators}
use Rattle.mta_envelope_recipient.specs.declared.parts.RecipientPart.TheVariants.{Conversion, Extensions}
use Rattle.mta_envelope_recipient.specs.declared.parts.RecipientParts.{RecipientParts}

pub record IsRecipient (v : RecipientFields) : Type 0 where
  pub some : 1 ≤ v.number
  pub small : v.number ≤ 32767
  pub indicators : IsIndicators v.indicators
  pub conversion : IfSome v.conversion (IsRaw 2 2)

abbrev pub recipient_part_of : Tag → Option RecipientPart
recipient_part_of t =
    if is_constructed_tag 1 0 t then Some Addressee
    else if is_primitive_tag 2 0 t then Some Number
    else if is_tag 2 1 t then Some Indicators
    else if is_tag 2 2 t then Some Conversion
    else if is_constructed_tag 2 3 t then Some Extensions
    else None

-- whether a tag is that of a component
abbrev pub is_recipient_tag : RecipientPart → Tag → Bool
is_recipient_tag Addressee t = is_constructed_tag 1 0 t
is_recipient_tag Number t = is_primitive_tag 2 0 t
is_recipient_tag Indicators t = is_tag 2 1 t
is_recipient_tag Conversion t = is_tag 2 2 t
is_recipient_tag Extensions t = is_constructed_tag 2 3 t

abbrev pub with_name : RecipientParts → Attributes → RecipientParts
with_name s x = record s { name = Some x }

abbrev pub with_number : RecipientParts → ℕ → RecipientParts
with_number s x = record s { number = Some x }

abbrev pub with_indicators : RecipientParts → BitString → RecipientParts
with_indicators s x = record s { indicators = Some x }

abbrev pub with_conversion : RecipientParts → List ℕ → RecipientParts
with_conversion s x = record s { conversion = Some x }

abbrev pub with_extensions : RecipientParts → List ExtFields → RecipientParts
with_extensions s x = record s { extensions = Some x }

abbrev pub recipient_part_in : RecipientPart → RecipientParts → Part → Result RecipientParts Fault
recipient_part_in Addressee s p = once s.name p.at (name_in p) >>= λ x. Ok (with_name s x)
recipient_part_in Number s p = once s.number p.at (number_in 1 32767 p) >>= λ x. Ok (with_number s x)
recipient_part_in Indicators s p = once s.indicators p.at (indicators_in p) >>= λ x. Ok (with_indicators s x)
recipient_part_in Conversion s p = once s.conversion p.at (raw_in p) >>= λ x. Ok (with_conversion s x)
recipient_part_in Extensions s p = once s.extensions p.at (ext_list_in p) >>= λ x. Ok (with_extensions s x)

abbrev pub recipient_step_of : Option RecipientPart → RecipientParts → Part → Result RecipientParts Fault
recipient_step_of None s p = fault p.at BadTag
recipient_step_of (Some k) s p = recipient_part_in k s p

unfoldable pub recipient_step : RecipientParts → Part → Result RecipientParts Fault
recipient_step s p = recipient_step_of (recipient_part_of p.tag) s p

abbrev pub no_recipient : RecipientParts
no_recipient = record { name = None; number = None; indicators = None; conversion = None; extensions = None }

-- no extensions are the default
abbrev pub fields_or_none : Option (List ExtFields) → List ExtFields
fields_or_none o = unwrap_or o []

abbrev pub recipient : Attributes → ℕ → BitString → RecipientParts → RecipientFields
recipient name number indicators s =
    record {
      name = name;
      number = number;
      indicators = indicators;
      conversion = s.conversion;
      extensions =
          fields_or_none s.extensions;
    }

-- with the required components there
abbrev pub finished : ℕ → RecipientParts → Result RecipientFields Fault
finished at s = required s.name at >>= λ n. required s.number at >>= λ k. required s.indicators at >>= λ b. Ok
    (recipient n k b s)

unfoldable pub recipient_in : Part → Result RecipientFields Fault
recipient_in p = components_under 0 17 recipient_step no_recipient p >>= finished p.at

-- ---- what spells a recipient

abbrev pub MakesRecipientPart : RecipientPart → ℕ → RecipientParts → Tag → List ℕ → List ℕ
    → RecipientParts → Type 0
MakesRecipientPart Addressee depth s tag content octets after = (s.name ≡ None)
    × Puts (SpellsName depth tag.constructed content) (with_name s) after
MakesRecipientPart Number depth s tag content octets after = (s.number ≡ None)
    × Puts (SpellsNumber 1 32767 tag.constructed content) (with_number s) after
MakesRecipientPart Indicators depth s tag content octets after = (s.indicators ≡ None)
    × Puts (SpellsIndicators depth tag.constructed content) (with_indicators s) after
MakesRecipientPart Conversion depth s tag content octets after = (s.conversion ≡ None)
    × Puts (λ x. x ≡ octets) (with_conversion s) after
MakesRecipientPart Extensions depth s tag content octets after = (s.extensions ≡ None)
    × Puts (SpellsExtList depth tag.constructed content) (with_extensions s) after

pub record MakesRecipient (depth : ℕ) (before : RecipientParts) (tag : Tag) (content octets : List ℕ)
    (after : RecipientParts) : Type 0 where
  pub part : RecipientPart
  pub is_tag_of : is_recipient_tag part tag ≡ true
  pub made : MakesRecipientPart part depth before tag content octets after

-- a SET of its components in any order, each at most once
pub record SpellsRecipient (depth : ℕ) (tag : Tag) (content : List ℕ) (v : RecipientFields) : Type 0 where
  pub is_tag_of : is_constructed_tag 0 17 tag ≡ true
  pub parts : RecipientParts
  pub spelled : SpellsComponents MakesRecipient depth no_recipient content parts
  pub name : parts.name ≡ Some v.name
  pub number : parts.number ≡ Some v.number
  pub indicators : parts.indicators ≡ Some v.indicators
  pub value : v ≡ recipient v.name v.number v.indicators parts

-- ---- the one spelling that is written

abbrev pub recipient_content : RecipientFields → List ℕ
recipient_content v =
    canonical_name (constructed 1 0) v.name ++ canon_int (primitive 2 0) (pos v.number)
    ++ canonical_indicators (primitive 2 1) v.indicators ++ optional kept v.conversion
    ++ canonical_ext_list (constructed 2 3) v.extensions

unfoldable pub canonical_recipient : RecipientFields → List ℕ
canonical_recipient v = element (constructed 0 17) (recipient_content v)
