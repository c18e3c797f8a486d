-- Which of the recipients are chosen.
use Rattle.std.specs.Prelude.{◌≡◌, ◌<◌, ◌+◌, ℕ, Bool, false, List, length, get_or}
use Rattle.mta_procedures.specs.Copies.{is_chosen}

-- each flag says whether the position, counted from 1, is a chosen one
abbrev pub AreFlags : List ℕ → List Bool → Type 0
AreFlags chosen flags =
    (place : ℕ) → place < length flags → get_or flags place false ≡ is_chosen chosen (place + 1)
