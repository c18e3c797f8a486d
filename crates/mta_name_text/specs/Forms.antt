-- The text form of a name: parts KEY=value, joined by semicolons, in the order of the keys. What is kept unread has no
-- part.
use Rattle.std.specs.Prelude.{ℕ, List, [], ◌∷◌, ◌++◌, map, Option, Some, None}
use Rattle.std.specs.List.{flat_map}
use Rattle.std.specs.Option.{option_map}
use Rattle.mta_names.specs.declared.attributes.Attributes.{Attributes}
use Rattle.mta_names.specs.declared.attributes.Label.{Label}
use Rattle.mta_names.specs.declared.attributes.PairFields.{PairFields}
use Rattle.mta_names.specs.declared.attributes.PersonFields.{PersonFields}
use Rattle.mta_name_text.specs.declared.key.Key.{Key}
use Rattle.mta_name_text.specs.declared.key.Key.TheVariants as Keys
use Rattle.mta_name_text.specs.declared.part.Part.{Part}

-- C, A, P, O, OU, S, G, I, Q, CN, X121, TID, UID and DDA:
abbrev pub key_text : Key → List ℕ
key_text Keys.Country = 67 ∷ []
key_text Keys.Admd = 65 ∷ []
key_text Keys.Prmd = 80 ∷ []
key_text Keys.Organization = 79 ∷ []
key_text Keys.Unit = 79 ∷ 85 ∷ []
key_text Keys.Surname = 83 ∷ []
key_text Keys.Given = 71 ∷ []
key_text Keys.Initials = 73 ∷ []
key_text Keys.Generation = 81 ∷ []
key_text Keys.Common = 67 ∷ 78 ∷ []
key_text Keys.Network = 88 ∷ 49 ∷ 50 ∷ 49 ∷ []
key_text Keys.Terminal = 84 ∷ 73 ∷ 68 ∷ []
key_text Keys.User = 85 ∷ 73 ∷ 68 ∷ []
key_text Keys.Pair = 68 ∷ 68 ∷ 65 ∷ 58 ∷ []

abbrev pub keyed : Key → List ℕ → Part
keyed k v = record { key = k; kind = []; value = v }

abbrev pub keyed_if : Key → Option (List ℕ) → List Part
keyed_if k None = []
keyed_if k (Some v) = keyed k v ∷ []

abbrev pub label_text : Label → List ℕ
label_text l = l.text

abbrev pub labelled_if : Key → Option Label → List Part
labelled_if k l = keyed_if k (option_map label_text l)

abbrev pub units_keyed : List (List ℕ) → List Part
units_keyed us = map (keyed Keys.Unit) us

abbrev pub person_keyed : Option PersonFields → List Part
person_keyed None = []
person_keyed (Some p) = keyed Keys.Surname p.surname ∷
    (keyed_if Keys.Given p.given ++ (keyed_if Keys.Initials p.initials ++ keyed_if Keys.Generation p.generation))

abbrev pub pair_keyed : PairFields → Part
pair_keyed p = record { key = Keys.Pair; kind = p.kind; value = p.value }

abbrev pub pairs_keyed : List PairFields → List Part
pairs_keyed ps = map pair_keyed ps

-- the attributes of a name in the order of their keys
abbrev pub keyed_of : Attributes → List Part
keyed_of n =
    labelled_if Keys.Country n.country
    ++ (labelled_if Keys.Admd n.admd
    ++ (labelled_if Keys.Prmd n.prmd
    ++ (keyed_if Keys.Organization n.organization ++ (units_keyed n.units ++ (person_keyed n.person
    ++ (keyed_if Keys.Common n.common
    ++ (keyed_if Keys.Network n.network
    ++ (keyed_if Keys.Terminal n.terminal ++ (keyed_if Keys.User n.user ++ pairs_keyed n.pairs)))))))))

abbrev pub part_text : Part → List ℕ
part_text k = key_text k.key ++ (k.kind ++ 61 ∷ k.value)

abbrev pub behind_semicolon : List ℕ → List ℕ
behind_semicolon p = 59 ∷ p

-- parts with a semicolon between each two
abbrev pub joined : List (List ℕ) → List ℕ
joined [] = []
joined (p ∷ ps) = p ++ flat_map behind_semicolon ps

unfoldable pub text_form : Attributes → List ℕ
text_form n = joined (map part_text (keyed_of n))

-- ---- writing part by part

abbrev pub followed : List ℕ → Part → List ℕ
followed [] k = part_text k
followed (c ∷ cs) k = (c ∷ cs) ++ 59 ∷ part_text k

abbrev pub followed_all : List ℕ → List Part → List ℕ
followed_all t [] = t
followed_all t (k ∷ ks) = followed_all (followed t k) ks
