-- Numbers that are read digit by digit, as long as they are small.
use Rattle.std.specs.Prelude.{ℕ, ◌+◌, ◌-◌, ◌*◌, List, [], ◌∷◌, Option, Some, None, nat_le}
use Rattle.std.specs.Prelude.{if◌then◌else◌}

abbrev pub small_from : ℕ → List ℕ → Option ℕ
small_from n [] = Some n
small_from n (c ∷ cs) = if nat_le (n * 10 + (c - 48)) 99999999 then small_from (n * 10 + (c - 48)) cs else None
