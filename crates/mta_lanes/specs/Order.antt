-- Numbers in order.
use Rattle.std.specs.Prelude.{◌≤◌, ◌<◌, ℕ, List, length, get_or}

-- no number is below one that stands before it
abbrev pub AreInOrder : List ℕ → Type 0
AreInOrder xs = (i j : ℕ) → i ≤ j → j < length xs → get_or xs i 0 ≤ get_or xs j 0
