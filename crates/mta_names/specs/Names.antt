-- O/R names (X.411, ORName): a SEQUENCE of standard, domain-defined and extension attributes and a directory name.
use Rattle.std.specs.Prelude.{◌≡◌, ℕ, ◌<◌, ◌≤◌, Bool, true, List, ◌++◌, Option}
use Rattle.std.specs.Prelude.{Some, None, Result, Ok, ◌==◌, if◌then◌else◌}
use Rattle.mta_ber.specs.declared.fault.Fault.{Fault}
use Rattle.mta_ber.specs.declared.fault.Kind.TheVariants.{BadTag, Missing}
use Rattle.mta_ber.specs.declared.tag.Tag.{Tag}
use Rattle.mta_ber.specs.Canon.{element, optional}
use Rattle.mta_ber.specs.Components.{SpellsComponents}
use Rattle.mta_ber.specs.Element.{Part}
use Rattle.mta_ber.specs.Head.{◌>>=◌, fault}
use Rattle.mta_ber.specs.Parts.{components, is_tag, in_order}
use Rattle.mta_names.specs.declared.attributes.Attributes.{Attributes}
use Rattle.mta_names.specs.declared.attributes.PairFields.{PairFields}
use Rattle.mta_names.specs.declared.extension.ExtensionParts.{ExtensionParts}
use Rattle.mta_names.specs.declared.reading.NameParts.{NameParts}
use Rattle.mta_names.specs.declared.reading.NamePart.{NamePart}
use Rattle.mta_names.specs.declared.reading.NamePart.TheVariants.{Standard, Pairs, Extensions, Directory}
use Rattle.mta_names.specs.Extensions.{extensions_in, SpellsExtensions, canonical_extensions}
use Rattle.mta_names.specs.Lists.{pairs_in, SpellsPairs, canonical_pairs, listed}
use Rattle.mta_names.specs.Standard.{standard_in, SpellsStandard, canonical_standard}
use Rattle.mta_names.specs.Strings.{Puts}
use Rattle.mta_names.specs.Values.{nothing}

-- the first SEQUENCE is that of the standard attributes, and one behind it that of the domain-defined attributes
abbrev pub name_part_of : ℕ → Tag → Option NamePart
name_part_of last t =
    if is_tag 0 16 t then (if last == 0 then Some Standard else Some Pairs)
    else if is_tag 0 17 t then Some Extensions
    else if is_tag 2 0 t then Some Directory
    else None

abbrev pub name_class : NamePart → ℕ
name_class Directory = 2
name_class _ = 0

abbrev pub name_number : NamePart → ℕ
name_number Standard = 16
name_number Pairs = 16
name_number Extensions = 17
name_number Directory = 0

abbrev pub name_place : NamePart → ℕ
name_place Standard = 1
name_place Pairs = 2
name_place Extensions = 3
name_place Directory = 4

-- the standard attributes have to stand before the others
abbrev pub name_needed : NamePart → ℕ
name_needed Standard = 0
name_needed _ = 1

abbrev pub name_parts : ℕ → Attributes → NameParts
name_parts last n = record { last = last; attributes = n }

abbrev pub with_pairs : Attributes → List PairFields → NameParts
with_pairs n x = name_parts 2 (record n { pairs = x })

abbrev pub with_extensions : Attributes → ExtensionParts → NameParts
with_extensions n x = name_parts 3 (record n { common = x.common; extras = x.extras })

abbrev pub with_directory : Attributes → List ℕ → NameParts
with_directory n x = name_parts 4 (record n { directory = Some x })

abbrev pub name_part_in : NamePart → Attributes → Part → Result NameParts Fault
name_part_in Standard n p = standard_in p >>= λ x. Ok (name_parts 1 x)
name_part_in Pairs n p = pairs_in p >>= λ x. Ok (with_pairs n x)
name_part_in Extensions n p = extensions_in p >>= λ x. Ok (with_extensions n x)
name_part_in Directory n p = Ok (with_directory n p.octets)

abbrev pub name_step_of : Option NamePart → NameParts → Part → Result NameParts Fault
name_step_of None s p = fault p.at BadTag
name_step_of (Some k) s p = in_order s.last (name_needed k) (name_place k) p.at (name_part_in k s.attributes p)

unfoldable pub name_step : NameParts → Part → Result NameParts Fault
name_step s p = name_step_of (name_part_of s.last p.tag) s p

abbrev pub ended : ℕ → NameParts → Result Attributes Fault
ended at s = if s.last == 0 then fault at Missing else Ok s.attributes

unfoldable pub name_in : Part → Result Attributes Fault
name_in p = components name_step (name_parts 0 nothing) p >>= ended p.at

-- ---- what spells a name

abbrev pub MakesNamePart : NamePart → ℕ → Attributes → Tag → List ℕ → List ℕ → NameParts → Type 0
MakesNamePart Standard depth n tag content octets after =
    Puts (SpellsStandard depth tag.constructed content) (name_parts 1) after
MakesNamePart Pairs depth n tag content octets after =
    Puts (SpellsPairs depth tag.constructed content) (with_pairs n) after
MakesNamePart Extensions depth n tag content octets after =
    Puts (SpellsExtensions depth tag.constructed content) (with_extensions n) after
MakesNamePart Directory depth n tag content octets after = after ≡ with_directory n octets

pub record MakesName (depth : ℕ) (before : NameParts) (tag : Tag) (content octets : List ℕ)
    (after : NameParts) : Type 0 where
  pub part : NamePart
  pub is_tag_of : is_tag (name_class part) (name_number part) tag ≡ true
  pub needed : name_needed part ≤ before.last
  pub behind : before.last < name_place part
  pub made : MakesNamePart part depth before.attributes tag content octets after

-- a SEQUENCE of components in their order, of which the standard attributes are there
pub record SpellsName (depth : ℕ) (constructed : Bool) (content : List ℕ) (n : Attributes) : Type 0 where
  pub is_constructed : constructed ≡ true
  pub last : ℕ
  pub some : 1 ≤ last
  pub spelled : SpellsComponents MakesName depth (name_parts 0 nothing) content (name_parts last n)

-- ---- the one spelling that is written

abbrev pub extensions_of : Attributes → ExtensionParts
extensions_of n = record { common = n.common; extras = n.extras }

abbrev pub kept : List ℕ → List ℕ
kept octets = octets

abbrev pub name_content : Attributes → List ℕ
name_content n = canonical_standard n ++ listed canonical_pairs n.pairs ++ canonical_extensions (extensions_of n)
    ++ optional kept n.directory

-- under the tag that stands for a name at its place
unfoldable pub canonical_name : Tag → Attributes → List ℕ
canonical_name tag n = element tag (name_content n)
