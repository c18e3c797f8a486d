-- When two O/R names are the same: their normal lists are equal (X.402, clause 18).
use Rattle.std.specs.Prelude.{◌≡◌, ℕ, ◌+◌, Bool, true, false, List, [], ◌∷◌, map}
use Rattle.std.specs.Prelude.{Option, Some, None, ◌==◌, ◌&&◌, if◌then◌else◌}
use Rattle.std.specs.Option.{option_map}
use Rattle.std.specs.Str.{bytes_eq}
use Rattle.mta_ber.specs.Strings.{between}
use Rattle.mta_names.specs.declared.attributes.Attributes.{Attributes}
use Rattle.mta_names.specs.declared.attributes.Label.{Label}
use Rattle.mta_names.specs.declared.attributes.PairFields.{PairFields}
use Rattle.mta_names.specs.declared.attributes.PersonFields.{PersonFields}

-- ---- normal texts

-- a small letter for a capital one
abbrev pub folded : ℕ → ℕ
folded c = if between 65 90 c then c + 32 else c

-- without the spaces at its beginning
abbrev pub unspaced : List ℕ → List ℕ
unspaced [] = []
unspaced (c ∷ cs) = if c == 32 then unspaced cs else c ∷ cs

-- a space that waits is written before the next character that is none
abbrev pub behind : Bool → ℕ → List ℕ → List ℕ
behind true c rest = 32 ∷ c ∷ rest
behind false c rest = c ∷ rest

-- small letters, one space for each run of spaces, and none at the end
abbrev pub squeezed : Bool → List ℕ → List ℕ
squeezed waits [] = []
squeezed waits (c ∷ cs) = if c == 32 then squeezed true cs else behind waits (folded c) (squeezed false cs)

-- small letters, one space for each run of spaces, and none at the beginning or the end
unfoldable pub normal_text : List ℕ → List ℕ
normal_text text = squeezed false (unspaced text)

-- ---- normal lists

pub record NormalPerson : Type 0 where
  pub surname : List ℕ
  pub given : Option (List ℕ)
  pub initials : Option (List ℕ)
  pub generation : Option (List ℕ)

pub record NormalPair : Type 0 where
  pub kind : List ℕ
  pub value : List ℕ

-- what is kept unread has no place here
pub record NormalList : Type 0 where
  pub country : Option (List ℕ)
  pub admd : Option (List ℕ)
  pub prmd : Option (List ℕ)
  pub organization : Option (List ℕ)
  pub units : List (List ℕ)
  pub person : Option NormalPerson
  pub common : Option (List ℕ)
  pub network : Option (List ℕ)
  pub terminal : Option (List ℕ)
  pub user : Option (List ℕ)
  pub pairs : List NormalPair

abbrev pub normal_label : Label → List ℕ
normal_label l = normal_text l.text

abbrev pub normal_person : PersonFields → NormalPerson
normal_person p = record {
  surname = normal_text p.surname;
  given = option_map normal_text p.given;
  initials = option_map normal_text p.initials;
  generation = option_map normal_text p.generation;
}

abbrev pub normal_pair : PairFields → NormalPair
normal_pair p = record { kind = normal_text p.kind; value = normal_text p.value }

abbrev pub normal_list : Attributes → NormalList
normal_list n = record {
  country = option_map normal_label n.country;
  admd = option_map normal_label n.admd;
  prmd = option_map normal_label n.prmd;
  organization = option_map normal_text n.organization;
  units = map normal_text n.units;
  person = option_map normal_person n.person;
  common = option_map normal_text n.common;
  network = option_map normal_text n.network;
  terminal = option_map normal_text n.terminal;
  user = option_map normal_text n.user;
  pairs = map normal_pair n.pairs;
}

abbrev pub IsSameName : Attributes → Attributes → Type 0
IsSameName m n = normal_list m ≡ normal_list n

-- ---- the test of it

abbrev pub is_same_text : List ℕ → List ℕ → Bool
is_same_text s t = bytes_eq (normal_text s) (normal_text t)

abbrev pub is_same_option : {X : Type 0} → (X → X → Bool) → Option X → Option X → Bool
is_same_option same None None = true
is_same_option same None (Some y) = false
is_same_option same (Some x) None = false
is_same_option same (Some x) (Some y) = same x y

abbrev pub is_same_list : {X : Type 0} → (X → X → Bool) → List X → List X → Bool
is_same_list same [] [] = true
is_same_list same [] (y ∷ ys) = false
is_same_list same (x ∷ xs) [] = false
is_same_list same (x ∷ xs) (y ∷ ys) = same x y && is_same_list same xs ys

abbrev pub is_same_value : Option (List ℕ) → Option (List ℕ) → Bool
is_same_value s t = is_same_option is_same_text s t

abbrev pub is_same_labels : Label → Label → Bool
is_same_labels l m = is_same_text l.text m.text

abbrev pub is_same_label : Option Label → Option Label → Bool
is_same_label l m = is_same_option is_same_labels l m

abbrev pub is_same_person : PersonFields → PersonFields → Bool
is_same_person p q = is_same_text p.surname q.surname && is_same_value p.given q.given && is_same_value p.initials
    q.initials && is_same_value p.generation q.generation

abbrev pub is_same_persons : Option PersonFields → Option PersonFields → Bool
is_same_persons p q = is_same_option is_same_person p q

abbrev pub is_same_texts : List (List ℕ) → List (List ℕ) → Bool
is_same_texts s t = is_same_list is_same_text s t

abbrev pub is_same_pair : PairFields → PairFields → Bool
is_same_pair p q = is_same_text p.kind q.kind && is_same_text p.value q.value

abbrev pub is_same_pairs : List PairFields → List PairFields → Bool
is_same_pairs p q = is_same_list is_same_pair p q

unfoldable pub is_same_name : Attributes → Attributes → Bool
is_same_name m n =
    is_same_label m.country n.country && is_same_label m.admd n.admd && is_same_label m.prmd n.prmd && is_same_value
    m.organization n.organization && is_same_texts m.units n.units
    && is_same_persons m.person n.person && is_same_value m.common n.common && is_same_value m.network n.network &&
    is_same_value m.terminal n.terminal && is_same_value m.user n.user
    && is_same_pairs m.pairs n.pairs
