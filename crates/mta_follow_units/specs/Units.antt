-- The units with which a spool's records go to a standby.
--
-- A unit is four octets of its body's length, the most significant first, a kind octet, and the body. To the standby go
-- the records, one at a time, each with its body, and in the end their number; back goes, for each, that it is kept,
-- with its number. Records are counted from 1.
use Rattle.std.specs.Prelude.{◌≡◌, ◌⊎◌, ℕ, zero, suc, ◌+◌, ◌≤◌, ◌<◌, List, [], ◌∷◌, ◌++◌, length, take, drop}
use Rattle.std.specs.Prelude.{slice_index}
use Rattle.std.specs.Int.{w32, w64, from_be_bytes, to_be_bytes}
use Rattle.std.specs.List.{flat_map}
use Rattle.mta_journal.specs.Bodies.{longest_body, longest_first}
use Rattle.mta_follow_units.specs.declared.due.Due.{Due}
use Rattle.mta_follow_units.specs.declared.due.Due.TheVariants as due

-- ---- as they are put

-- the kind octets: a record, that one is kept, and that these were all
abbrev pub record_kind : ℕ
record_kind = 1

abbrev pub kept_kind : ℕ
kept_kind = 2

abbrev pub done_kind : ℕ
done_kind = 3

-- the octets of a record's unit in front of its body
abbrev pub record_head : ℕ → List ℕ
record_head size = to_be_bytes w32 size ++ record_kind ∷ []

-- a record with this body
abbrev pub record_unit : List ℕ → List ℕ
record_unit body = record_head (length body) ++ body

-- a unit of this kind whose body is a number
abbrev pub number_unit : ℕ → ℕ → List ℕ
number_unit kind number = 0 ∷ 0 ∷ 0 ∷ 8 ∷ kind ∷ to_be_bytes w64 number

-- the record of this number is kept
abbrev pub kept_unit : ℕ → List ℕ
kept_unit number = number_unit kept_kind number

-- there are no more records than so many
abbrev pub done_unit : ℕ → List ℕ
done_unit count = number_unit done_kind count

-- records with these bodies, one behind the other
abbrev pub record_units : List (List ℕ) → List ℕ
record_units bodies = flat_map record_unit bodies

-- ---- as they are judged

-- the length that stands in front of a unit's body, its kind, and its body
abbrev pub size_in : List ℕ → ℕ
size_in octets = from_be_bytes w32 (take 4 octets)

abbrev pub kind_in : List ℕ → ℕ
kind_in octets = slice_index octets 4

abbrev pub body_in : List ℕ → List ℕ
body_in octets = take (size_in octets) (drop 5 octets)

-- the number that a unit's body is
abbrev pub number_in : List ℕ → ℕ
number_in octets = from_be_bytes w64 (body_in octets)

-- the most octets of the body of the record behind so many: the first record may be that of a snapshot
abbrev pub most : ℕ → ℕ
most zero = longest_first
most (suc got) = longest_body

-- a unit that is due may have a body of so many octets
abbrev pub MayHaveSize : Due → ℕ → Type 0
MayHaveSize (due.Record got) size = size ≤ most got
MayHaveSize (due.Kept number) size = size ≡ 8

-- a unit of this kind, whose body has so many octets, is due
abbrev pub MayHaveKind : Due → (size kind : ℕ) → Type 0
MayHaveKind (due.Record got) size kind = (kind ≡ record_kind) ⊎ ((kind ≡ done_kind) × (size ≡ 8))
MayHaveKind (due.Kept number) size kind = kind ≡ kept_kind

-- the number that is due
abbrev pub number_due : Due → ℕ
number_due (due.Record got) = got
number_due (due.Kept number) = number

-- The unit that begins here is none that is due: by its length, which is judged by its four octets; by its kind, which
-- is judged by its octet; or by its number, which is judged when it is whole.
pub data IsBad (d : Due) (octets : List ℕ) : Type 0 where
  bad_size : 4 ≤ length octets → (MayHaveSize d (size_in octets) → ⊥) → IsBad d octets
  bad_kind : 5 ≤ length octets → MayHaveSize d (size_in octets)
      → (MayHaveKind d (size_in octets) (kind_in octets) → ⊥)
      → IsBad d octets
  bad_number : 5 + size_in octets ≤ length octets → MayHaveSize d (size_in octets)
      → MayHaveKind d (size_in octets) (kind_in octets) → (kind_in octets ≡ record_kind → ⊥)
      → (number_in octets ≡ number_due d → ⊥) → IsBad d octets

-- What stands here is a beginning of a unit that may be due, as far as it tells.
pub data IsCut (d : Due) (octets : List ℕ) : Type 0 where
  in_size : length octets < 4 → IsCut d octets
  in_kind : length octets ≡ 4 → MayHaveSize d (size_in octets) → IsCut d octets
  in_body : 5 ≤ length octets → length octets < 5 + size_in octets → MayHaveSize d (size_in octets)
      → MayHaveKind d (size_in octets) (kind_in octets) → IsCut d octets

-- A unit begins here that is due: a record with this body, that these were all, or that the last one is kept.
abbrev pub BeginsRecord : ℕ → List ℕ → List ℕ → Type 0
BeginsRecord got body octets = (length body ≤ most got) × (rest : List ℕ) × (octets ≡ record_unit body ++ rest)

abbrev pub BeginsNumber : (kind number : ℕ) → List ℕ → Type 0
BeginsNumber kind number octets = (rest : List ℕ) × (octets ≡ number_unit kind number ++ rest)
