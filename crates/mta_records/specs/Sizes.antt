-- How many octets fields have.
use Rattle.std.specs.Prelude.{ℕ, ◌-◌, ◌^◌, min}

-- a count of octets, or the greatest that is told where there are more
abbrev pub capped : ℕ → ℕ
capped n = min n (2 ^ 64 - 1)
