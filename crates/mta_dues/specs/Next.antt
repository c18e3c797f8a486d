-- The lowest number behind another.
use Rattle.std.specs.Prelude.{◌≡◌, ℕ, ◌<◌, Bool, true, false, Option, Some, None}

-- the number is below what was found, where something was
abbrev pub IsBefore : ℕ → Option ℕ → Type 0
IsBefore i None = Unit {0}
IsBefore i (Some n) = i < n

-- what was found is above this number, where something was
abbrev pub IsAbove : ℕ → Option ℕ → Type 0
IsAbove after None = Unit {0}
IsAbove after (Some n) = after < n

-- what was found stands there
abbrev pub IsThere : (ℕ → Bool) → Option ℕ → Type 0
IsThere is None = Unit {0}
IsThere is (Some n) = is n ≡ true

-- nothing that stands there is above this number and before what was found
abbrev pub NoneBetween : (ℕ → Bool) → ℕ → Option ℕ → Type 0
NoneBetween is after found = (i : ℕ) → after < i → IsBefore i found → is i ≡ false

-- the lowest number above this one that stands there, or none
pub record IsNextIn (is : ℕ → Bool) (after : ℕ) (found : Option ℕ) : Type 0 where
  pub above : IsAbove after found
  pub there : IsThere is found
  pub lowest : NoneBetween is after found
