-- What the first octets of a record say, of a disk that has so many octets left from its gate on, where a body may have
-- so many.
use Rattle.std.specs.Prelude.{◌≡◌, ◌≢◌, ◌⊎◌, ◌+◌, ◌≤◌, ◌<◌, ℕ, List, ◌∷◌, drop, slice_index}
use Rattle.std.specs.Int.{w32, from_be_bytes, to_be_bytes}
use Rattle.mta_journal.specs.declared.read.Head.{Head}
use Rattle.mta_journal.specs.declared.read.Head.TheVariants.{Closed, Broken, Open}

-- the length that stands behind the gate
abbrev pub length_in : List ℕ → ℕ
length_in head = from_be_bytes w32 (drop 1 head)

abbrev pub SaysHead : ℕ → List ℕ → ℕ → Head → Type 0
SaysHead most head left Closed = slice_index head 0 ≢ 1
SaysHead most head left Broken = (slice_index head 0 ≡ 1)
    × ((left < 5) ⊎ (5 ≤ left) × ((most < length_in head) ⊎ (left < length_in head + 6)))
SaysHead most head left (Open n) = (head ≡ 1 ∷ to_be_bytes w32 n) × (n ≤ most) × (n + 6 ≤ left)
