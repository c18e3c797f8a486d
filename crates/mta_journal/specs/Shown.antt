-- What contracts see of a journal.
use Rattle.std.specs.Prelude.{◌≡◌, ◌⊎◌, ◌+◌, ◌≤◌, ◌<◌, ℕ, Bool, false, List, [], ◌∷◌, length, Option, None, Some}
use Rattle.mta_edge.specs.Views.{DiskView}
use Rattle.mta_edge.specs.Crashes.{Settled}
use Rattle.mta_disk.specs.Records.{frame_of}
use Rattle.mta_journal.specs.Bodies.{records, HasBodiesAt}

-- its disk, the first gate of its current area, the octets used, and whether a call answered that the disk failed
pub record Shown (D : Type 0) : Type 0 where
  pub disk : D
  pub first : ℕ
  pub size : ℕ
  pub ended : Bool

-- the area is the only one, or the first of two
abbrev pub IsPlain : ℕ → Type 0
IsPlain gate = (gate ≡ 8) ⊎ (gate ≡ 23)

-- What the journal keeps where the second area is current: the frame of that area's record, for which the first area
-- has room.
pub record IsFrameOfSecond {D : Type 0} (model : DiskView D) (disk : D) (gate size : ℕ)
    (frame : List ℕ) : Type 0 where
  pub above : 24 + length frame ≤ gate
  pub size_is : size ≡ gate + length frame + 1
  pub frame_is : (f : List ℕ) → model.content disk ≡ Some f → (body : List ℕ)
      → HasBodiesAt gate (body ∷ []) f
      → frame ≡ frame_of body

-- The octets used lie inside the disk, and nothing is pending; a journal of one area has bodies; where the second area
-- is current its frame is kept. Where the disk failed nothing is known.
pub record IsSound {D : Type 0} (model : DiskView D) (disk : D) (gate size : ℕ) (ended : Bool)
    (frame : Option (List ℕ)) : Type 0 where
  pub begun : gate < size
  pub some : gate ≡ 8 → 9 < size
  pub within : ended ≡ false → (f : List ℕ) → model.content disk ≡ Some f → size ≤ length f
  pub settled : ended ≡ false → Settled model disk
  pub plain : ended ≡ false → frame ≡ None → IsPlain gate
  pub second : ended ≡ false → (kept : List ℕ) → frame ≡ Some kept
      → IsFrameOfSecond model disk gate size kept

-- the journal holds these bodies, and a crash leaves them
pub record Holds {D : Type 0} (model : DiskView D) (journal : Shown D) (bodies : List (List ℕ)) : Type 0 where
  pub file : (f : List ℕ) → model.content journal.disk ≡ Some f → HasBodiesAt journal.first bodies f
  pub size : journal.size ≡ journal.first + length (records bodies) + 1
  pub going : journal.ended ≡ false
  pub settled : Settled model journal.disk
