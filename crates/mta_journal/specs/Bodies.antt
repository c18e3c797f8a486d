-- Which bodies an image of the disk holds, in one area or in two.
use Rattle.std.specs.Prelude.{◌≡◌, ◌≢◌, ◌⊎◌, ◌+◌, ◌≤◌, ◌<◌, ℕ, List, [], ◌∷◌, ◌++◌, length, take, drop, slice_index}
use Rattle.std.specs.List.{flat_map}
use Rattle.std.specs.Int.{w64, from_be_bytes}
use Rattle.mta_disk.specs.Records.{counted}

-- the octets `MTASPL01`, with which each journal begins
unfoldable pub magic : List ℕ
magic = 77 ∷ 84 ∷ 65 ∷ 83 ∷ 80 ∷ 76 ∷ 48 ∷ 49 ∷ []

-- the most octets of a body, and of the first one of an area
abbrev pub longest_body : ℕ
longest_body = 4194304

abbrev pub longest_first : ℕ
longest_first = 268435456

-- the octets that a body's record needs: its gate, its length and the body
abbrev pub need_of : List ℕ → ℕ
need_of body = length body + 5

-- a record behind an open gate: the octet 1, four octets of the body's length, and the body
abbrev pub open_record : List ℕ → List ℕ
open_record body = 1 ∷ counted body

-- the records of these bodies, one behind the other
abbrev pub records : List (List ℕ) → List ℕ
records bodies = flat_map open_record bodies

-- no body is too long, where the first may have so many octets
abbrev pub AreWithin : ℕ → List (List ℕ) → Type 0
AreWithin most [] = Unit {0}
AreWithin most (body ∷ bodies) = (length body ≤ most) × AreWithin longest_body bodies

-- how many octets the body behind these may have, where the first of them all may have so many
abbrev pub most_behind : ℕ → List (List ℕ) → ℕ
most_behind most [] = most
most_behind most (body ∷ bodies) = most_behind longest_body bodies

-- From this gate on stand the records of these bodies, and a closed gate. What follows that gate is nothing.
pub record HasRecords (gate : ℕ) (bodies : List (List ℕ)) (image : List ℕ) : Type 0 where
  pub octet : ℕ
  pub rest : List ℕ
  pub octets : drop gate image ≡ records bodies ++ octet ∷ rest
  pub closed : octet ≢ 1
  pub each : AreWithin longest_first bodies

-- the octets of a disk of two areas up to its selector: `MTASPL01`, an open gate, the length ten, and the octet FF
unfoldable pub mark : List ℕ
mark = 77 ∷ 84 ∷ 65 ∷ 83 ∷ 80 ∷ 76 ∷ 48 ∷ 49 ∷ 1 ∷ 0 ∷ 0 ∷ 0 ∷ 10 ∷ 255 ∷ []

-- The disk has two areas: gate 8 is open, and its body has ten octets of which the first is FF. With the gate behind
-- it, which is the first one of the first area, the record lies inside the disk.
pub record HasAreas (image : List ℕ) : Type 0 where
  pub front : take 14 image ≡ mark
  pub inside : 24 ≤ length image

-- the other octets of that body: which area is current, and where the second one begins
abbrev pub selector : List ℕ → ℕ
selector image = slice_index image 14

abbrev pub high : List ℕ → ℕ
high image = from_be_bytes w64 (take 8 (drop 15 image))

-- The first gate of the current area is this one. A second area has exactly one record, and the first area would have
-- room for it.
pub data IsCurrent (gate : ℕ) (bodies : List (List ℕ)) (image : List ℕ) : Type 0 where
  alone : take 8 image ≡ magic → (HasAreas image → ⊥) → gate ≡ 8 → IsCurrent gate bodies image
  first : HasAreas image → selector image ≢ 1 → gate ≡ 23 → IsCurrent gate bodies image
  second : HasAreas image → selector image ≡ 1 → gate ≡ high image → (body : List ℕ) → bodies ≡ body ∷
      []
      → 24 + need_of body ≤ gate → IsCurrent gate bodies image

-- The image has these bodies, in the area that begins at this gate.
pub record HasBodiesAt (gate : ℕ) (bodies : List (List ℕ)) (image : List ℕ) : Type 0 where
  pub current : IsCurrent gate bodies image
  pub stand : HasRecords gate bodies image

-- the image has these bodies
abbrev pub HasBodies : List ℕ → List (List ℕ) → Type 0
HasBodies image bodies = (gate : ℕ) × HasBodiesAt gate bodies image

-- from this gate on the image has these bodies, or those and one more
abbrev pub HasOrOneMore : ℕ → List (List ℕ) → List ℕ → List ℕ → Type 0
HasOrOneMore gate bodies body image = HasBodiesAt gate bodies image ⊎ HasBodiesAt gate (bodies ++ body ∷ []) image

-- the second of two areas is current
pub record HasSecondArea (image : List ℕ) : Type 0 where
  pub areas : HasAreas image
  pub chosen : selector image ≡ 1

-- The image stands for these bodies: at most nine octets for none, whatever they are, and a longer image for those it
-- has.
abbrev pub StandsFor : List ℕ → List (List ℕ) → Type 0
StandsFor image bodies = ((length image ≤ 9) × (bodies ≡ [])) ⊎ ((9 < length image) × HasBodies image bodies)

-- one image stands for one list of bodies
abbrev pub OneList : Type 0
OneList = (image : List ℕ) (s t : List (List ℕ)) → StandsFor image s → StandsFor image t → s ≡ t

-- and they stand in one place
abbrev pub OneArea : Type 0
OneArea = (image : List ℕ) (gate other : ℕ) (s t : List (List ℕ)) → HasBodiesAt gate s image
    → HasBodiesAt other t image
    → (gate ≡ other) × (s ≡ t)
