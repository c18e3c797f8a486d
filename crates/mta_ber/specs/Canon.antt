-- The one spelling that is written: definite minimal lengths, primitive strings, SETs in the order of their tags.
use Rattle.std.specs.Prelude.{◌≡◌, take, ℕ, zero, suc, ◌+◌, ◌*◌, ◌/◌, ◌%◌, ◌<◌, ◌^◌, true, false, List}
use Rattle.std.specs.Prelude.{[], ◌∷◌, ◌++◌, length, Option, Some, None, nat_lt, if◌then◌else◌}
use Rattle.std.specs.Int.{w64, to_be_bytes}
use Rattle.mta_ber.specs.declared.tag.Tag.{Tag}

-- a tag that can be written
pub record IsTag (t : Tag) : Type 0 where
  pub class : t.class < 4
  pub number : t.number < 2 ^ 28

abbrev pub drop_zeros : List ℕ → List ℕ
drop_zeros [] = []
drop_zeros (zero ∷ bs) = drop_zeros bs
drop_zeros (suc b ∷ bs) = suc b ∷ bs

unfoldable pub length_octets : ℕ → List ℕ
length_octets n = if nat_lt n 128 then n ∷ [] else (128 + length (drop_zeros (to_be_bytes w64 n))) ∷
    drop_zeros (to_be_bytes w64 n)

-- seven bits in each octet, the first ones with their top bit set
unfoldable pub high_octets : ℕ → List ℕ
high_octets n =
    if nat_lt n 128 then n ∷ []
    else if nat_lt n (2 ^ 14) then (128 + n / 128) ∷ (n % 128) ∷ []
    else if nat_lt n (2 ^ 21) then (128 + n / 2 ^ 14) ∷ (128 + n / 128 % 128) ∷ (n % 128) ∷ []
    else (128 + n / 2 ^ 21) ∷ (128 + n / 2 ^ 14 % 128) ∷ (128 + n / 128 % 128) ∷ (n % 128) ∷ []

abbrev pub class_octet : Tag → ℕ
class_octet t = t.class * 64 + (if t.constructed then 32 else 0)

unfoldable pub ident_octets : Tag → List ℕ
ident_octets t = if nat_lt t.number 31 then (class_octet t + t.number) ∷ [] else (class_octet t + 31) ∷
    high_octets t.number

unfoldable pub element : Tag → List ℕ → List ℕ
element t content = ident_octets t ++ (length_octets (length content) ++ content)

abbrev pub constructed : ℕ → ℕ → Tag
constructed class number = record { class = class; constructed = true; number = number }

abbrev pub primitive : ℕ → ℕ → Tag
primitive class number = record { class = class; constructed = false; number = number }

abbrev pub optional : {A : Type 0} → (A → List ℕ) → Option A → List ℕ
optional write None = []
optional write (Some x) = write x

-- what is put: the frames that are begun, the innermost first, each with what stood before it, and what is put in the
-- innermost
pub record Written : Type 0 where
  pub frames : List (Tag × List ℕ)
  pub octets : List ℕ

-- the innermost frame is closed
abbrev pub ended : Written → Written
ended w = elim (w.frames) [ [] ↦ w | f ∷ fs ↦ record { frames = fs; octets = f.1 ++ element f.0 w.octets } ]

-- behind what was put before
abbrev pub appended : Written → List ℕ → Written
appended w octets = record { frames = w.frames; octets = w.octets ++ octets }

-- an element is begun, behind what was put before
abbrev pub begun : Tag → Written → Written
begun t w = record { frames = (t, w.octets) ∷ w.frames; octets = [] }

-- octets that begin with others
abbrev pub Begins : List ℕ → List ℕ → Type 0
Begins front whole = take (length front) whole ≡ front
