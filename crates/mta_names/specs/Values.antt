-- O/R names as values: their attributes, with characters and sizes (X.402, clause 18; X.411, upper bounds).
use Rattle.std.specs.Prelude.{◌≡◌, ℕ, ◌+◌, ◌≤◌, Bool, true, false, IsTrue, List, [], ◌∷◌}
use Rattle.std.specs.Prelude.{length, Option, Some, None, IfSome, ◌||◌}
use Rattle.std.specs.List.{list_all}
use Rattle.mta_ber.specs.declared.text.TextClass.{TextClass}
use Rattle.mta_ber.specs.declared.text.TextClass.TheVariants.{Numeric, Printable}
use Rattle.mta_ber.specs.Strings.{between, IsText}
use Rattle.mta_names.specs.declared.attributes.Label.{Label}
use Rattle.mta_names.specs.declared.attributes.Attributes.{Attributes}
pub use Rattle.mta_names.specs.Bounded.{IsPerson, IsPair, IsRaw, IsExtra}

-- each of a list
abbrev pub Each : {X : Type 0} → (X → Type 0) → List X → Type 0
Each P [] = Unit {0}
Each P (x ∷ xs) = P x × Each P xs

-- ---- labels

abbrev pub is_letter : ℕ → Bool
is_letter c = between 65 90 c || between 97 122 c

abbrev pub is_digit : ℕ → Bool
is_digit c = between 48 57 c

-- a numeric country has three digits, and another one two letters
abbrev pub country_character : Bool → ℕ → Bool
country_character true c = is_digit c
country_character false c = is_letter c

abbrev pub country_size : Bool → ℕ
country_size true = 3
country_size false = 2

pub record IsCountry (l : Label) : Type 0 where
  pub characters : IsTrue (list_all (country_character l.numeric) l.text)
  pub size : length l.text ≡ country_size l.numeric

abbrev pub label_class : Bool → TextClass
label_class true = Numeric
label_class false = Printable

abbrev pub IsLabel : ℕ → ℕ → Label → Type 0
IsLabel low high l = IsText (label_class l.numeric) low high l.text

-- ---- names

abbrev pub count_of : {X : Type 0} → Option X → ℕ
count_of None = 0
count_of (Some x) = 1

pub record IsName (n : Attributes) : Type 0 where
  pub country : IfSome n.country IsCountry
  pub admd : IfSome n.admd (IsLabel 0 16)
  pub network : IfSome n.network (IsText Numeric 1 16)
  pub terminal : IfSome n.terminal (IsText Printable 1 24)
  pub prmd : IfSome n.prmd (IsLabel 1 16)
  pub organization : IfSome n.organization (IsText Printable 1 64)
  pub user : IfSome n.user (IsText Numeric 1 32)
  pub person : IfSome n.person IsPerson
  pub units : Each (IsText Printable 1 32) n.units
  pub few_units : length n.units ≤ 4
  pub pairs : Each IsPair n.pairs
  pub few_pairs : length n.pairs ≤ 4
  pub common : IfSome n.common (IsText Printable 1 64)
  pub extras : Each IsExtra n.extras
  pub few_extensions : count_of n.common + length n.extras ≤ 256
  pub directory : IfSome n.directory (IsRaw 2 0)

abbrev pub nothing : Attributes
nothing = record {
  country = None;
  admd = None;
  network = None;
  terminal = None;
  prmd = None;
  organization = None;
  user = None;
  person = None;
  units = [];
  pairs = [];
  common = None;
  extras = [];
  directory = None;
}
