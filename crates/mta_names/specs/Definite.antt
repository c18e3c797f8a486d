-- Parts that are kept unread, by their lengths. What is in a part of a definite length is not looked into, so it stands
-- in every level up to 16; of one of an indefinite length the levels inside count too.
use Rattle.std.specs.Prelude.{◌≡◌, ℕ, ◌+◌, ◌≤◌, true, List, Some, None, IfSome}
use Rattle.mta_ber.specs.declared.tag.Tag.{Tag}
use Rattle.mta_ber.specs.Canon.{IsTag}
use Rattle.mta_names.specs.declared.attributes.Attributes.{Attributes}
use Rattle.mta_names.specs.Laws.{IsRawAt, IsReadAgain, KeepsName}
use Rattle.mta_names.specs.Names.{name_in, canonical_name}
use Rattle.mta_names.specs.Values.{Each, IsRaw, IsName}

abbrev pub DefinitePartsStandEverywhere : Type 0
DefinitePartsStandEverywhere =
    (depth class number size : ℕ) (octets : List ℕ) (h : IsRaw class number octets)
    → h.stands.count ≡ Some size
    → depth ≤ 16 → IsRawAt depth class number octets

-- a part stands in a level if its length is indefinite
abbrev pub FitsAt : ℕ → ℕ → ℕ → List ℕ → Type 0
FitsAt depth class number octets =
    (h : IsRaw class number octets) → h.stands.count ≡ None → IsRawAt depth class number octets

-- what a name in the level `depth` keeps unread in an indefinite length stands in the level of its place
pub record FitsName (depth : ℕ) (n : Attributes) : Type 0 where
  pub extras : Each (λ x. FitsAt (depth + 3) 2 1 x.raw) n.extras
  pub directory : IfSome n.directory (FitsAt (depth + 1) 2 0)

-- then all that it keeps unread does
abbrev pub NamesThatFitAreKept : Type 0
NamesThatFitAreKept = (depth : ℕ) (n : Attributes) → IsName n → FitsName depth n → depth + 3 ≤ 16
    → KeepsName depth n

-- and it is read again where it is written
abbrev pub NamesThatFitAreReadAgain : Type 0
NamesThatFitAreReadAgain =
    (tag : Tag) (depth : ℕ) (n : Attributes) → IsTag tag → tag.constructed ≡ true
    → IsName n → FitsName depth n → depth + 4 ≤ 16 → IsReadAgain name_in depth (canonical_name tag n) n
