-- A stream that is fed in pieces, as far as its units were taken.
use Rattle.std.specs.Prelude.{◌≡◌, ℕ, ◌+◌, ◌-◌, ◌^◌, ◌<◌, ◌≤◌, List, [], ◌∷◌, ◌++◌, length}
use Rattle.std.specs.Int.{w32, from_be_bytes}
use Rattle.mta_ber.specs.Octet.{IsOctets}

-- how many octets stand in front of the unit that is due, what was fed of it, and for how many octets more memory is
-- there
pub record Feed : Type 0 where
  pub at : ℕ
  pub left : List ℕ
  pub spare : ℕ

abbrev pub no_feed : Feed
no_feed = record { at = 0; left = []; spare = 0 }

-- the memory for so many octets is there
abbrev pub with_spare : Feed → ℕ → Feed
with_spare f count = record f { spare = count }

-- a piece more
abbrev pub fed : Feed → List ℕ → Feed
fed f piece = record { at = f.at; left = f.left ++ piece; spare = 0 }

-- all that was fed is taken
abbrev pub passed : Feed → Feed
passed f = record { at = f.at + length f.left; left = []; spare = 0 }

-- how many octets the unit has that begins with these, as far as they tell: its head, and behind that its body
unfoldable pub unit_size : List ℕ → ℕ
unit_size [] = 5
unit_size (a ∷ []) = 5
unit_size (a ∷ b ∷ []) = 5
unit_size (a ∷ b ∷ c ∷ []) = 5
unit_size (a ∷ b ∷ c ∷ d ∷ []) = 5
unit_size (a ∷ b ∷ c ∷ d ∷ e ∷ octets) = 5 + from_be_bytes w32 (a ∷ b ∷ c ∷ d ∷ [])

-- how many of them are still to come
abbrev pub wanted : List ℕ → ℕ
wanted octets = unit_size octets - length octets

-- what a value of the stream's type holds: no more than the unit that is due, of a stream of less than 2^64 octets, in
-- memory for so many more
pub record IsFeed (at : ℕ) (left : List ℕ) (spare capacity : ℕ) : Type 0 where
  pub room : at + length left + spare < 2 ^ 64
  pub within : length left ≤ unit_size left
  pub bytes : IsOctets left
  pub memory : length left + spare ≤ capacity
