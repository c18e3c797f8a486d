-- Where an image is no journal.
use Rattle.std.specs.Prelude.{◌≡◌, ◌≢◌, ◌⊎◌, ◌+◌, ◌≤◌, ◌<◌, ℕ, List, [], ◌∷◌, ◌++◌, length, take, drop, slice_index}
use Rattle.std.specs.Int.{w32, from_be_bytes}
use Rattle.mta_journal.specs.Bodies.{magic, longest_first, need_of, records, AreWithin, most_behind, HasRecords}
use Rattle.mta_journal.specs.Bodies.{HasAreas, selector, high, StandsFor}

-- its first octet that is not that of a journal is this one of the first eight
pub record DiffersAt (image : List ℕ) (at : ℕ) : Type 0 where
  pub inside : at < 8
  pub same : take at image ≡ take at magic
  pub differs : slice_index image at ≢ slice_index magic at

-- The record behind an open gate passes the end of what follows the gate, with the next gate that belongs to it, or has
-- more than so many octets.
abbrev pub IsFaulty : ℕ → List ℕ → Type 0
IsFaulty most rest = (length rest < from_be_bytes w32 (take 4 rest) + 5) ⊎ (most < from_be_bytes w32 (take 4 rest))

-- records stand from `gate` on before this open gate, and its record is faulty
pub record FaultyAt (gate : ℕ) (image : List ℕ) (at : ℕ) : Type 0 where
  pub bodies : List (List ℕ)
  pub rest : List ℕ
  pub octets : drop gate image ≡ records bodies ++ 1 ∷ rest
  pub each : AreWithin longest_first bodies
  pub place : at ≡ gate + length (records bodies)
  pub faulty : IsFaulty (most_behind longest_first bodies) rest

-- The image begins as a journal does. Where its second area is current: that one begins too low or not inside the disk,
-- which shows at 15; else it is not one open record; else it begins too low for that record, which shows at 15. Where
-- another is current, one of its records is faulty.
pub data HasNoAreaAt (image : List ℕ) (at : ℕ) : Type 0 where
  outside : HasAreas image → selector image ≡ 1 → (high image < 24) ⊎ (length image ≤ high image)
      → at ≡ 15
      → HasNoAreaAt image at
  not_one : HasAreas image → selector image ≡ 1 → 24 ≤ high image → high image < length image
      → ((body : List ℕ) → HasRecords (high image) (body ∷ []) image → ⊥) → at ≡ high image
      → HasNoAreaAt image at
  too_low : HasAreas image → selector image ≡ 1 → 24 ≤ high image → (body : List ℕ)
      → HasRecords (high image) (body ∷ []) image
      → high image < 24 + need_of body → at ≡ 15 → HasNoAreaAt image at
  in_first : HasAreas image → selector image ≢ 1 → FaultyAt 23 image at → HasNoAreaAt image at
  in_only : take 8 image ≡ magic → (HasAreas image → ⊥) → FaultyAt 8 image at → HasNoAreaAt image at

-- the image is longer than nine octets and is no journal, for what stands at this offset
abbrev pub IsNoJournalAt : List ℕ → ℕ → Type 0
IsNoJournalAt image at = (9 < length image) × (DiffersAt image at ⊎ HasNoAreaAt image at)

-- no image stands for bodies and is no journal
abbrev pub NotBoth : Type 0
NotBoth = (image : List ℕ) (bodies : List (List ℕ)) (at : ℕ) → StandsFor image bodies → IsNoJournalAt image at
    → ⊥

-- one image is no journal at one place
abbrev pub OnePlace : Type 0
OnePlace = (image : List ℕ) (p q : ℕ) → IsNoJournalAt image p → IsNoJournalAt image q → p ≡ q
