-- Personal names (X.411, PersonalName): a SET of four strings, each with an implicit tag.
use Rattle.std.specs.Prelude.{◌≡◌, ℕ, Bool, true, List, ◌++◌, Option, Some, None, Result, Ok, if◌then◌else◌}
use Rattle.mta_ber.specs.declared.fault.Fault.{Fault}
use Rattle.mta_ber.specs.declared.fault.Kind.TheVariants.{BadTag}
use Rattle.mta_ber.specs.declared.tag.Tag.{Tag}
use Rattle.mta_ber.specs.declared.text.TextClass.TheVariants.{Printable}
use Rattle.mta_ber.specs.Canon.{element, primitive, optional}
use Rattle.mta_ber.specs.Components.{Makes, SpellsComponents}
use Rattle.mta_ber.specs.Element.{Part}
use Rattle.mta_ber.specs.Head.{◌>>=◌, fault}
use Rattle.mta_ber.specs.Parts.{components, is_tag, once, required}
use Rattle.mta_ber.specs.Segmented.{SpellsText}
use Rattle.mta_ber.specs.Strings.{text_in}
use Rattle.mta_names.specs.declared.attributes.PersonFields.{PersonFields}
use Rattle.mta_names.specs.declared.person.PersonParts.{PersonParts}
use Rattle.mta_names.specs.declared.person.PersonPart.{PersonPart}
use Rattle.mta_names.specs.declared.person.PersonPart.TheVariants.{Surname, Given, Initials, Generation}
use Rattle.mta_names.specs.Strings.{Puts}

abbrev pub person_number : PersonPart → ℕ
person_number Surname = 0
person_number Given = 1
person_number Initials = 2
person_number Generation = 3

abbrev pub person_size : PersonPart → ℕ
person_size Surname = 40
person_size Given = 16
person_size Initials = 5
person_size Generation = 3

abbrev pub person_part_of : Tag → Option PersonPart
person_part_of t =
    if is_tag 2 0 t then Some Surname
    else if is_tag 2 1 t then Some Given
    else if is_tag 2 2 t then Some Initials
    else if is_tag 2 3 t then Some Generation
    else None

-- the component that is there so far
abbrev pub person_slot : PersonPart → PersonParts → Option (List ℕ)
person_slot Surname s = s.surname
person_slot Given s = s.given
person_slot Initials s = s.initials
person_slot Generation s = s.generation

abbrev pub with_person_part : PersonPart → PersonParts → List ℕ → PersonParts
with_person_part Surname s t = record s { surname = Some t }
with_person_part Given s t = record s { given = Some t }
with_person_part Initials s t = record s { initials = Some t }
with_person_part Generation s t = record s { generation = Some t }

abbrev pub person_part_in : PersonPart → PersonParts → Part → Result PersonParts Fault
person_part_in k s p = once (person_slot k s) p.at (text_in Printable 1 (person_size k) p) >>= λ t. Ok
    (with_person_part k s t)

abbrev pub person_step_of : Option PersonPart → PersonParts → Part → Result PersonParts Fault
person_step_of None s p = fault p.at BadTag
person_step_of (Some k) s p = person_part_in k s p

unfoldable pub person_step : PersonParts → Part → Result PersonParts Fault
person_step s p = person_step_of (person_part_of p.tag) s p

abbrev pub no_person : PersonParts
no_person = record { surname = None; given = None; initials = None; generation = None }

abbrev pub person : List ℕ → PersonParts → PersonFields
person surname s = record { surname = surname; given = s.given; initials = s.initials; generation = s.generation }

unfoldable pub person_in : Part → Result PersonFields Fault
person_in p = components person_step no_person p >>= λ s. required s.surname p.at >>= λ t. Ok (person t s)

-- ---- what spells a personal name

pub record MakesPersonPart (depth : ℕ) (before : PersonParts) (tag : Tag) (content : List ℕ)
    (after : PersonParts) : Type 0 where
  pub part : PersonPart
  pub is_tag_of : is_tag 2 (person_number part) tag ≡ true
  pub absent : person_slot part before ≡ None
  pub puts : Puts (SpellsText Printable 1 (person_size part) depth tag.constructed content)
      (with_person_part part before) after

abbrev pub MakesPerson : Makes PersonParts
MakesPerson depth before tag content octets after = MakesPersonPart depth before tag content after

-- a SET of its components in any order, each at most once
pub record SpellsPerson (depth : ℕ) (constructed : Bool) (content : List ℕ) (v : PersonFields) : Type 0 where
  pub is_constructed : constructed ≡ true
  pub parts : PersonParts
  pub spelled : SpellsComponents MakesPerson depth no_person content parts
  pub surname : parts.surname ≡ Some v.surname
  pub value : v ≡ person v.surname parts

-- ---- the one spelling that is written

abbrev pub canonical_person_part : PersonPart → List ℕ → List ℕ
canonical_person_part k t = element (primitive 2 (person_number k)) t

abbrev pub canonical_person : PersonFields → List ℕ
canonical_person v =
    canonical_person_part Surname v.surname ++ optional (canonical_person_part Given) v.given
    ++ optional (canonical_person_part Initials) v.initials
    ++ optional (canonical_person_part Generation) v.generation
