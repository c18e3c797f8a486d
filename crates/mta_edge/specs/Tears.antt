-- How a crash tears a call: one octal digit says how.
use Rattle.std.specs.Prelude.{ℕ, ◌-◌, ◌/◌, ◌%◌, ◌≤◌, ◌≢◌, nat_le, if◌then◌else◌, List, [], ◌∷◌}
use Rattle.std.specs.Prelude.{◌++◌, length, take, drop, map, replicate, slice_index_or}
use Rattle.mta_edge.specs.Outside.{written}
use Rattle.mta_edge.specs.declared.tear.Tear.{Tear}
use Rattle.mta_edge.specs.declared.tear.Tear.TheVariants.{Nothing, Whole, Half, Other, OtherHalf, Zeros, Ones, Late}

abbrev pub tears : List Tear
tears = Nothing ∷ Whole ∷ Half ∷ Other ∷ OtherHalf ∷ Zeros ∷ Ones ∷ Late ∷ []

-- by the last octal digit
abbrev pub tear_of : ℕ → Tear
tear_of choice = slice_index_or tears (choice % 8) Nothing

-- each bit the other way round
abbrev pub others : List ℕ → List ℕ
others bytes = map (λ b. 255 - b) bytes

-- what is written in place of the octets, at the same offset
abbrev pub piece_of : Tear → List ℕ → List ℕ
piece_of Nothing bytes = []
piece_of Whole bytes = bytes
piece_of Half bytes = take (length bytes / 2) bytes
piece_of Other bytes = others bytes
piece_of OtherHalf bytes = others (take (length bytes / 2) bytes)
piece_of Zeros bytes = replicate (length bytes) 0
piece_of Ones bytes = replicate (length bytes) 1
piece_of Late bytes = replicate (length bytes / 2) 0 ++ drop (length bytes / 2) bytes

-- An image that ends before the offset, since an earlier write was torn, stays as it is.
abbrev pub torn_write : Tear → ℕ → List ℕ → List ℕ → List ℕ
torn_write tear at bytes f = if nat_le at (length f) then written at (piece_of tear bytes) f else f

-- how many of n octets a cut to this size keeps
abbrev pub kept_of : Tear → ℕ → ℕ → ℕ
kept_of Nothing size n = n
kept_of Half size n = n - (n - size) / 2
kept_of tear size n = size

abbrev pub torn_cut : Tear → ℕ → List ℕ → List ℕ
torn_cut tear size f = take (kept_of tear size (length f)) f

-- Two octets or more that are written at the end of an image leave four different images: without them, with all of
-- them, with a size in between, and with other octets.
pub record FourDiffer (bytes f : List ℕ) : Type 0 where
  pub nothing_whole : torn_write Nothing (length f) bytes f ≢ torn_write Whole (length f) bytes f
  pub nothing_half : torn_write Nothing (length f) bytes f ≢ torn_write Half (length f) bytes f
  pub nothing_other : torn_write Nothing (length f) bytes f ≢ torn_write Other (length f) bytes f
  pub half_whole : torn_write Half (length f) bytes f ≢ torn_write Whole (length f) bytes f
  pub half_other : torn_write Half (length f) bytes f ≢ torn_write Other (length f) bytes f
  pub whole_other : torn_write Whole (length f) bytes f ≢ torn_write Other (length f) bytes f

abbrev pub TearsDiffer : Type 0
TearsDiffer = (bytes f : List ℕ) → 2 ≤ length bytes → FourDiffer bytes f
