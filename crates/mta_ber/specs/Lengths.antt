-- How many octets are written, as a number of 64 bits tells it.
use Rattle.std.specs.Prelude.{ℕ, ◌-◌, ◌^◌, List, length, min}

-- how many octets there are, or 2^64 - 1 where there are more
abbrev pub octet_length : List ℕ → ℕ
octet_length octets = min (length octets) (2 ^ 64 - 1)
