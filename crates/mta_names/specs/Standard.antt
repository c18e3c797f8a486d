-- Standard attributes (X.411, BuiltInStandardAttributes): a SEQUENCE, all of it optional.
use Rattle.std.specs.Prelude.{◌≡◌, ℕ, ◌<◌, Bool, true, List, ◌++◌, Option, Some, None, Result, Ok, if◌then◌else◌}
use Rattle.mta_ber.specs.declared.fault.Fault.{Fault}
use Rattle.mta_ber.specs.declared.fault.Kind.TheVariants.{BadTag}
use Rattle.mta_ber.specs.declared.tag.Tag.{Tag}
use Rattle.mta_ber.specs.declared.text.TextClass.TheVariants.{Numeric, Printable}
use Rattle.mta_ber.specs.Canon.{element, constructed, primitive, optional}
use Rattle.mta_ber.specs.Components.{SpellsComponents}
use Rattle.mta_ber.specs.Element.{Part}
use Rattle.mta_ber.specs.Head.{◌>>=◌, fault}
use Rattle.mta_ber.specs.Parts.{components, is_tag, in_order}
use Rattle.mta_ber.specs.Segmented.{SpellsText}
use Rattle.mta_ber.specs.Strings.{text_in}
use Rattle.mta_names.specs.declared.attributes.Attributes.{Attributes}
use Rattle.mta_names.specs.declared.attributes.Label.{Label}
use Rattle.mta_names.specs.declared.attributes.PersonFields.{PersonFields}
use Rattle.mta_names.specs.declared.standard.StandardParts.{StandardParts}
use Rattle.mta_names.specs.declared.standard.StandardPart.{StandardPart}
use Rattle.mta_names.specs.declared.standard.StandardPart.TheVariants.{Country, Admd, Network, Terminal, Prmd}
use Rattle.mta_names.specs.declared.standard.StandardPart.TheVariants.{Organization, User, Name, Units}
use Rattle.mta_names.specs.Labels.{country_in, label_in, SpellsLabel, canonical_label}
use Rattle.mta_names.specs.Lists.{units_in, SpellsUnits, canonical_units, listed}
use Rattle.mta_names.specs.Persons.{person_in, SpellsPerson, canonical_person}
use Rattle.mta_names.specs.Strings.{Puts}
use Rattle.mta_names.specs.Values.{IsCountry, IsLabel, nothing}

abbrev pub standard_part_of : Tag → Option StandardPart
standard_part_of t =
    if is_tag 1 1 t then Some Country
    else if is_tag 1 2 t then Some Admd
    else if is_tag 2 0 t then Some Network
    else if is_tag 2 1 t then Some Terminal
    else if is_tag 2 2 t then Some Prmd
    else if is_tag 2 3 t then Some Organization
    else if is_tag 2 4 t then Some User
    else if is_tag 2 5 t then Some Name
    else if is_tag 2 6 t then Some Units
    else None

abbrev pub standard_class : StandardPart → ℕ
standard_class Country = 1
standard_class Admd = 1
standard_class _ = 2

abbrev pub standard_number : StandardPart → ℕ
standard_number Country = 1
standard_number Admd = 2
standard_number Network = 0
standard_number Terminal = 1
standard_number Prmd = 2
standard_number Organization = 3
standard_number User = 4
standard_number Name = 5
standard_number Units = 6

-- the place in the SEQUENCE
abbrev pub standard_place : StandardPart → ℕ
standard_place Country = 1
standard_place Admd = 2
standard_place Network = 3
standard_place Terminal = 4
standard_place Prmd = 5
standard_place Organization = 6
standard_place User = 7
standard_place Name = 8
standard_place Units = 9

abbrev pub standard_parts : ℕ → Attributes → StandardParts
standard_parts last n = record { last = last; attributes = n }

abbrev pub with_country : Attributes → Label → StandardParts
with_country n x = standard_parts 1 (record n { country = Some x })

abbrev pub with_admd : Attributes → Label → StandardParts
with_admd n x = standard_parts 2 (record n { admd = Some x })

abbrev pub with_network : Attributes → List ℕ → StandardParts
with_network n x = standard_parts 3 (record n { network = Some x })

abbrev pub with_terminal : Attributes → List ℕ → StandardParts
with_terminal n x = standard_parts 4 (record n { terminal = Some x })

abbrev pub with_prmd : Attributes → Label → StandardParts
with_prmd n x = standard_parts 5 (record n { prmd = Some x })

abbrev pub with_organization : Attributes → List ℕ → StandardParts
with_organization n x = standard_parts 6 (record n { organization = Some x })

abbrev pub with_user : Attributes → List ℕ → StandardParts
with_user n x = standard_parts 7 (record n { user = Some x })

abbrev pub with_person : Attributes → PersonFields → StandardParts
with_person n x = standard_parts 8 (record n { person = Some x })

abbrev pub with_units : Attributes → List (List ℕ) → StandardParts
with_units n x = standard_parts 9 (record n { units = x })

abbrev pub standard_part_in : StandardPart → Attributes → Part → Result StandardParts Fault
standard_part_in Country n p = country_in p >>= λ x. Ok (with_country n x)
standard_part_in Admd n p = label_in 0 16 p >>= λ x. Ok (with_admd n x)
standard_part_in Network n p = text_in Numeric 1 16 p >>= λ x. Ok (with_network n x)
standard_part_in Terminal n p = text_in Printable 1 24 p >>= λ x. Ok (with_terminal n x)
standard_part_in Prmd n p = label_in 1 16 p >>= λ x. Ok (with_prmd n x)
standard_part_in Organization n p = text_in Printable 1 64 p >>= λ x. Ok (with_organization n x)
standard_part_in User n p = text_in Numeric 1 32 p >>= λ x. Ok (with_user n x)
standard_part_in Name n p = person_in p >>= λ x. Ok (with_person n x)
standard_part_in Units n p = units_in p >>= λ x. Ok (with_units n x)

abbrev pub standard_step_of : Option StandardPart → StandardParts → Part → Result StandardParts Fault
standard_step_of None s p = fault p.at BadTag
standard_step_of (Some k) s p = in_order s.last 0 (standard_place k) p.at (standard_part_in k s.attributes p)

unfoldable pub standard_step : StandardParts → Part → Result StandardParts Fault
standard_step s p = standard_step_of (standard_part_of p.tag) s p

unfoldable pub standard_in : Part → Result Attributes Fault
standard_in p = components standard_step (standard_parts 0 nothing) p >>= λ s. Ok s.attributes

-- ---- what spells them

abbrev pub MakesStandardPart : StandardPart → ℕ → Attributes → Tag → List ℕ → StandardParts → Type 0
MakesStandardPart Country depth n tag content after =
    Puts (SpellsLabel IsCountry depth tag.constructed content) (with_country n) after
MakesStandardPart Admd depth n tag content after = Puts (SpellsLabel (IsLabel 0 16) depth tag.constructed content)
    (with_admd n) after
MakesStandardPart Network depth n tag content after = Puts (SpellsText Numeric 1 16 depth tag.constructed content)
    (with_network n) after
MakesStandardPart Terminal depth n tag content after = Puts (SpellsText Printable 1 24 depth tag.constructed content)
    (with_terminal n) after
MakesStandardPart Prmd depth n tag content after = Puts (SpellsLabel (IsLabel 1 16) depth tag.constructed content)
    (with_prmd n) after
MakesStandardPart Organization depth n tag content after =
    Puts (SpellsText Printable 1 64 depth tag.constructed content) (with_organization n) after
MakesStandardPart User depth n tag content after = Puts (SpellsText Numeric 1 32 depth tag.constructed content)
    (with_user n) after
MakesStandardPart Name depth n tag content after =
    Puts (SpellsPerson depth tag.constructed content) (with_person n) after
MakesStandardPart Units depth n tag content after =
    Puts (SpellsUnits depth tag.constructed content) (with_units n) after

pub record MakesStandard (depth : ℕ) (before : StandardParts) (tag : Tag) (content octets : List ℕ)
    (after : StandardParts) : Type 0 where
  pub part : StandardPart
  pub is_tag_of : is_tag (standard_class part) (standard_number part) tag ≡ true
  pub behind : before.last < standard_place part
  pub made : MakesStandardPart part depth before.attributes tag content after

-- a SEQUENCE of components in their order, each at most once
pub record SpellsStandard (depth : ℕ) (constructed : Bool) (content : List ℕ) (n : Attributes) : Type 0 where
  pub is_constructed : constructed ≡ true
  pub last : ℕ
  pub spelled : SpellsComponents MakesStandard depth (standard_parts 0 nothing) content (standard_parts last n)

-- ---- the one spelling that is written

abbrev pub canonical_text : ℕ → List ℕ → List ℕ
canonical_text number t = element (primitive 2 number) t

abbrev pub canonical_named : PersonFields → List ℕ
canonical_named v = element (constructed 2 5) (canonical_person v)

abbrev pub standard_content : Attributes → List ℕ
standard_content n =
    optional (canonical_label 1 1) n.country ++ optional (canonical_label 1 2) n.admd
    ++ optional (canonical_text 0) n.network ++ optional (canonical_text 1) n.terminal
    ++ optional (canonical_label 2 2) n.prmd ++ optional (canonical_text 3) n.organization
    ++ optional (canonical_text 4) n.user
    ++ optional canonical_named n.person ++ listed canonical_units n.units

abbrev pub canonical_standard : Attributes → List ℕ
canonical_standard n = element (constructed 0 16) (standard_content n)
