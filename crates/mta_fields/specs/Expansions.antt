-- Expansions (X.411, DLExpansion): a SEQUENCE of the name of a list and the time at which it was expanded.
use Rattle.std.specs.Prelude.{◌≡◌, ℕ, ◌<◌, ◌≤◌, Bool, true, List, ◌++◌, Option, Some, None, Result, Ok, if◌then◌else◌}
use Rattle.mta_ber.specs.declared.fault.Fault.{Fault}
use Rattle.mta_ber.specs.declared.fault.Kind.TheVariants.{BadTag}
use Rattle.mta_ber.specs.declared.tag.Tag.{Tag}
use Rattle.mta_ber.specs.Canon.{element, constructed, primitive}
use Rattle.mta_ber.specs.Components.{SpellsComponents}
use Rattle.mta_ber.specs.Contents.{canon_utc}
use Rattle.mta_ber.specs.Element.{Part}
use Rattle.mta_ber.specs.Forms.{is_constructed_tag, components_under}
use Rattle.mta_ber.specs.Head.{◌>>=◌, fault}
use Rattle.mta_ber.specs.Moments.{SpellsMoment}
use Rattle.mta_ber.specs.Parts.{is_tag, in_order, required}
use Rattle.mta_ber.specs.Times.{utc_in, last_moment}
use Rattle.mta_names.specs.declared.attributes.Attributes.{Attributes}
use Rattle.mta_names.specs.Names.{name_in, SpellsName, canonical_name}
use Rattle.mta_names.specs.Strings.{Puts}
use Rattle.mta_fields.specs.declared.expansion.ExpansionFields.{ExpansionFields}
use Rattle.mta_fields.specs.declared.expansion.ExpansionPart.{ExpansionPart}
use Rattle.mta_fields.specs.declared.expansion.ExpansionPart.TheVariants.{Name, Time}
use Rattle.mta_fields.specs.declared.expansion.ExpansionParts.{ExpansionParts}

abbrev pub IsExpansion : ExpansionFields → Type 0
IsExpansion v = v.moment ≤ last_moment

abbrev pub expansion_part_of : Tag → Option ExpansionPart
expansion_part_of t = if is_tag 1 0 t then Some Name else if is_tag 0 23 t then Some Time else None

abbrev pub expansion_class : ExpansionPart → ℕ
expansion_class Name = 1
expansion_class Time = 0

abbrev pub expansion_number : ExpansionPart → ℕ
expansion_number Name = 0
expansion_number Time = 23

abbrev pub expansion_place : ExpansionPart → ℕ
expansion_place Name = 1
expansion_place Time = 2

-- the name has to stand before the time
abbrev pub expansion_needed : ExpansionPart → ℕ
expansion_needed Name = 0
expansion_needed Time = 1

abbrev pub with_name : ExpansionParts → Attributes → ExpansionParts
with_name s x = record s { last = 1; name = Some x }

abbrev pub with_moment : ExpansionParts → ℕ → ExpansionParts
with_moment s x = record s { last = 2; moment = Some x }

abbrev pub expansion_part_in : ExpansionPart → ExpansionParts → Part → Result ExpansionParts Fault
expansion_part_in Name s p = name_in p >>= λ x. Ok (with_name s x)
expansion_part_in Time s p = utc_in p >>= λ x. Ok (with_moment s x)

abbrev pub expansion_step_of : Option ExpansionPart → ExpansionParts → Part → Result ExpansionParts Fault
expansion_step_of None s p = fault p.at BadTag
expansion_step_of (Some k) s p = in_order s.last (expansion_needed k) (expansion_place k) p.at (expansion_part_in k s p)

unfoldable pub expansion_step : ExpansionParts → Part → Result ExpansionParts Fault
expansion_step s p = expansion_step_of (expansion_part_of p.tag) s p

abbrev pub no_expansion : ExpansionParts
no_expansion = record { last = 0; name = None; moment = None }

abbrev pub expansion : Attributes → ℕ → ExpansionFields
expansion name moment = record { name = name; moment = moment }

unfoldable pub expansion_in : Part → Result ExpansionFields Fault
expansion_in p = components_under 0 16 expansion_step no_expansion p >>= λ s. required s.name p.at
    >>= λ n. required s.moment p.at >>= λ m. Ok (expansion n m)

-- ---- what spells an expansion

abbrev pub MakesExpansionPart : ExpansionPart → ℕ → ExpansionParts → Tag → List ℕ → ExpansionParts
    → Type 0
MakesExpansionPart Name depth s tag content after = Puts (SpellsName depth tag.constructed content) (with_name s) after
MakesExpansionPart Time depth s tag content after =
    Puts (SpellsMoment depth tag.constructed content) (with_moment s) after

pub record MakesExpansion (depth : ℕ) (before : ExpansionParts) (tag : Tag) (content octets : List ℕ)
    (after : ExpansionParts) : Type 0 where
  pub part : ExpansionPart
  pub is_tag_of : is_tag (expansion_class part) (expansion_number part) tag ≡ true
  pub needed : expansion_needed part ≤ before.last
  pub behind : before.last < expansion_place part
  pub made : MakesExpansionPart part depth before tag content after

-- a SEQUENCE of its components in their order
pub record SpellsExpansion (depth : ℕ) (tag : Tag) (content : List ℕ) (v : ExpansionFields) : Type 0 where
  pub is_tag_of : is_constructed_tag 0 16 tag ≡ true
  pub parts : ExpansionParts
  pub spelled : SpellsComponents MakesExpansion depth no_expansion content parts
  pub name : parts.name ≡ Some v.name
  pub moment : parts.moment ≡ Some v.moment

-- ---- the one spelling that is written

unfoldable pub canonical_expansion : ExpansionFields → List ℕ
canonical_expansion v = element (constructed 0 16)
    (canonical_name (constructed 1 0) v.name ++ canon_utc (primitive 0 23) v.moment)
