-- How the pieces of an activity lie one behind the other.
use Rattle.std.specs.Prelude.{◌≤◌, ℕ, ◌+◌, List, [], ◌∷◌, length, take, drop}
use Rattle.std.specs.List.{concat}
use Rattle.mta_histories.specs.History.{with_piece}
use Rattle.mta_lanes.specs.declared.pieces.Held.{Held}
use Rattle.mta_lanes.specs.declared.pieces.Held.TheVariants.{Own, Shared}

abbrev pub octets_in : Held → List ℕ
octets_in (Own octets) = octets.items
octets_in (Shared octets) = octets.value

-- the pieces of these octets that have these ends; the first begins at `from`
abbrev pub pieces_of : (octets : List ℕ) → (from : ℕ) → (ends : List ℕ) → List (List ℕ)
pieces_of octets from [] = []
pieces_of octets from (end ∷ ends) = drop from (take end octets) ∷ pieces_of octets end ends

-- the end of the last piece
abbrev pub last_end : (from : ℕ) → (ends : List ℕ) → ℕ
last_end from [] = from
last_end from (end ∷ ends) = last_end end ends

-- no piece ends before it begins
abbrev pub AreEnds : (from : ℕ) → (ends : List ℕ) → Type 0
AreEnds from [] = Unit {0}
AreEnds from (end ∷ ends) = (from ≤ end) × AreEnds end ends

-- room for so many octets and so many ends
pub record Room : Type 0 where
  pub octets : ℕ
  pub ends : ℕ

-- there is room for the piece behind those before it
pub record HasPlace (pieces : List (List ℕ)) (number : ℕ) (piece : List ℕ) (room : Room) : Type 0 where
  pub octets : length (concat (with_piece pieces number piece)) ≤ room.octets
  pub ends : length pieces + 1 ≤ room.ends
