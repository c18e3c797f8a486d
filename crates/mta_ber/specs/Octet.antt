-- Octets as numbers.
use Rattle.std.specs.Prelude.{ℕ, ◌<◌, List, slice_index}

-- each number is that of an octet
abbrev pub IsOctets : List ℕ → Type 0
IsOctets octets = (i : ℕ) → slice_index octets i < 256
