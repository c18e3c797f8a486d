-- Places by digests.
use Rattle.std.specs.Prelude.{◌≡◌, ℕ, Bool, true, List, Option, Some, None}
use Rattle.std.specs.BTreeMap.{is_at}
use Rattle.std.specs.Map.{lookup}
use Rattle.std.specs.Ordering.{nat_cmp}

-- digests and their places; where two places had one digest, the index is not whole and says nothing
pub record PlacesValue : Type 0 where
  pub whole : Bool
  pub entries : List (ℕ × ℕ)

-- the place of a digest
abbrev pub place_of : PlacesValue → ℕ → Option ℕ
place_of p d = lookup (is_at (nat_cmp d)) p.entries

-- a place more under a digest that no place had
pub record Adds (old : PlacesValue) (digest place : ℕ) (new : PlacesValue) : Type 0 where
  pub whole : old.whole ≡ true
  pub free : place_of old digest ≡ None
  pub here : place_of new digest ≡ Some place
  pub others : (d : ℕ) → (digest ≡ d → ⊥) → place_of new d ≡ place_of old d
