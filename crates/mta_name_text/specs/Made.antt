-- The name, and the pattern of a route, that the parts of a text form make.
use Rattle.std.specs.Prelude.{◌≡◌, ℕ, ◌≤◌, false, IsTrue, List, [], ◌∷◌, ◌++◌, length}
use Rattle.std.specs.Prelude.{map, Option, Some, None, IfSome, Result, Ok, Err, ◌==◌}
use Rattle.std.specs.List.{list_all}
use Rattle.mta_names.specs.declared.attributes.Attributes.{Attributes}
use Rattle.mta_names.specs.declared.attributes.Label.{Label}
use Rattle.mta_names.specs.declared.attributes.PairFields.{PairFields}
use Rattle.mta_names.specs.declared.attributes.PersonFields.{PersonFields}
use Rattle.mta_names.specs.Values.{Each, IsName, nothing}
use Rattle.mta_name_text.specs.declared.key.Key.{Key}
use Rattle.mta_name_text.specs.declared.key.Key.TheVariants.{Country, Admd, Prmd, Organization, Unit, Surname, Given}
use Rattle.mta_name_text.specs.declared.key.Key.TheVariants.{Initials, Generation, Common, Network, Terminal, User}
use Rattle.mta_name_text.specs.declared.key.Key.TheVariants as Keys
use Rattle.mta_name_text.specs.declared.part.Part.{Part}
use Rattle.mta_name_text.specs.declared.place.Grammar.TheVariants.{Names, Patterns}
use Rattle.mta_name_text.specs.Forms.{keyed_of}
use Rattle.mta_name_text.specs.declared.place.Place.{Place}
use Rattle.mta_name_text.specs.Grammar.{start, Follow, IsForm}
use Rattle.mta_name_text.specs.Reading.{parts_of_text}
use Rattle.mta_name_text.specs.Shapes.{is_no_equals}

-- ---- names

-- three digits are numeric
abbrev pub country_label : List ℕ → Label
country_label v = record { numeric = length v == 3; text = v }

abbrev pub printable_label : List ℕ → Label
printable_label v = record { numeric = false; text = v }

abbrev pub surname_alone : List ℕ → PersonFields
surname_alone v = record { surname = v; given = None; initials = None; generation = None }

abbrev pub with_given : List ℕ → Option PersonFields → Option PersonFields
with_given v None = None
with_given v (Some p) = Some (record p { given = Some v })

abbrev pub with_initials : List ℕ → Option PersonFields → Option PersonFields
with_initials v None = None
with_initials v (Some p) = Some (record p { initials = Some v })

abbrev pub with_generation : List ℕ → Option PersonFields → Option PersonFields
with_generation v None = None
with_generation v (Some p) = Some (record p { generation = Some v })

abbrev pub pair_of : List ℕ → List ℕ → PairFields
pair_of t v = record { kind = t; value = v }

abbrev pub put_at : Key → List ℕ → List ℕ → Attributes → Attributes
put_at Country t v n = record n { country = Some (country_label v) }
put_at Admd t v n = record n { admd = Some (printable_label v) }
put_at Prmd t v n = record n { prmd = Some (printable_label v) }
put_at Organization t v n = record n { organization = Some v }
put_at Unit t v n = record n { units = n.units ++ v ∷ [] }
put_at Surname t v n = record n { person = Some (surname_alone v) }
put_at Given t v n = record n { person = with_given v n.person }
put_at Initials t v n = record n { person = with_initials v n.person }
put_at Generation t v n = record n { person = with_generation v n.person }
put_at Common t v n = record n { common = Some v }
put_at Network t v n = record n { network = Some v }
put_at Terminal t v n = record n { terminal = Some v }
put_at User t v n = record n { user = Some v }
put_at Keys.Pair t v n = record n { pairs = n.pairs ++ pair_of t v ∷ [] }

-- the attributes with that of one part more
abbrev pub put : Attributes → Part → Attributes
put n x = put_at x.key x.kind x.value n

abbrev pub put_all : Attributes → List Part → Attributes
put_all n [] = n
put_all n (x ∷ xs) = put_all (put n x) xs

abbrev pub name_of : List Part → Attributes
name_of parts = put_all nothing parts

-- the text is a text form of this name: its parts follow one another as those of a name do, and make this name
pub record IsTextForm (text : List ℕ) (n : Attributes) : Type 0 where
  pub parts : List Part
  pub form : IsForm Names text parts
  pub name_is : n ≡ name_of parts

abbrev pub made : {X : Type 0} → (List Part → X) → Result (List Part) ℕ → Result X ℕ
made f (Ok parts) = Ok (f parts)
made f (Err at) = Err at

unfoldable pub name_of_text : List ℕ → Result Attributes ℕ
name_of_text text = made name_of (parts_of_text Names text)

-- a name of which the text form says all: it has a part, nothing that is kept unread, no administration or private
-- domain of digits as NumericString, and no `=` in the type of a domain-defined attribute
pub record IsTold (n : Attributes) : Type 0 where
  pub name : IsName n
  pub some : 1 ≤ length (keyed_of n)
  pub admd : IfSome n.admd (λ l. l.numeric ≡ false)
  pub prmd : IfSome n.prmd (λ l. l.numeric ≡ false)
  pub pairs : Each (λ (p : PairFields). IsTrue (list_all is_no_equals p.kind)) n.pairs
  pub extras : n.extras ≡ []
  pub directory : n.directory ≡ None

-- ---- patterns of routes

abbrev pub value_of : Part → List ℕ
value_of x = x.value

abbrev pub values_of : List Part → List (List ℕ)
values_of parts = map value_of parts

-- one to eight values, those of parts that follow one another as a pattern's do, each with the characters and the size
-- of its key: a country, an administration domain, a private domain, an organization and at most four units
pub record IsPattern (values : List (List ℕ)) : Type 0 where
  pub parts : List Part
  pub last : Place
  pub follow : Follow Patterns start parts last
  pub values_are : values ≡ values_of parts
  pub some : 1 ≤ length values
  pub few : length values ≤ 8

-- the text is the text form of a pattern with these values
pub record IsPatternForm (text : List ℕ) (values : List (List ℕ)) : Type 0 where
  pub parts : List Part
  pub form : IsForm Patterns text parts
  pub values_are : values ≡ values_of parts

unfoldable pub pattern_of_text : List ℕ → Result (List (List ℕ)) ℕ
pattern_of_text text = made values_of (parts_of_text Patterns text)
