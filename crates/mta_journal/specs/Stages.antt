-- What stands on a disk of two areas while a journal is replaced by one record. The parts of that work lead through
-- these stages, and a crash in a part leaves what both have in common.
--
--   the first area has the bodies, and is current                                         HasFirst
--   and the second has the one record: either may be current                              HasFirst, HasSecond
--   the second is current, and the first is anything                                      HasSecond
--   and the first has that record too: either may be current                              HasFirst, HasSecond
--   the first has it, and is current                                                      HasFirst
use Rattle.std.specs.Prelude.{◌≡◌, ◌≢◌, ◌⊎◌, ◌+◌, ◌≤◌, ◌<◌, ℕ, List, [], ◌∷◌, length}
use Rattle.mta_disk.specs.Records.{frame_of}
use Rattle.mta_journal.specs.Bodies.{longest_first, records, need_of, HasRecords, HasAreas, selector, high, HasBodies}
use Rattle.mta_journal.specs.Bodies.{HasBodiesAt}

-- The first of two areas has these bodies, whichever is current, and ends in front of this offset.
pub record HasFirst (e : ℕ) (bodies : List (List ℕ)) (f : List ℕ) : Type 0 where
  pub areas : HasAreas f
  pub stand : HasRecords 23 bodies f
  pub ends : 23 + length (records bodies) < e

-- The second of two areas begins at this offset and has this one body, whichever is current. The first would have room
-- for it.
pub record HasSecond (e : ℕ) (body : List ℕ) (f : List ℕ) : Type 0 where
  pub areas : HasAreas f
  pub place : high f ≡ e
  pub stand : HasRecords e (body ∷ []) f
  pub below : 24 + need_of body ≤ e

-- the frame is this body's, which is not too long and would have room in front of this offset
pub record Fits (e : ℕ) (frame body : List ℕ) : Type 0 where
  pub frame_is : frame ≡ frame_of body
  pub short : length body ≤ longest_first
  pub below : 24 + need_of body ≤ e

-- the image has the first bodies from this gate on, or the others in whichever area
abbrev pub HasEither : ℕ → List (List ℕ) → List (List ℕ) → List ℕ → Type 0
HasEither gate s t image = HasBodiesAt gate s image ⊎ HasBodies image t

-- what stands in the first area stays, and it stays current or not
abbrev pub KeepsFirst : ℕ → List ℕ → List ℕ → Type 0
KeepsFirst e f g = (selector g ≡ selector f)
    × ((bodies : List (List ℕ)) → HasFirst e bodies f → HasFirst e bodies g)

-- what stands in the second area stays, and it stays current or not
abbrev pub KeepsSecond : List ℕ → List ℕ → List ℕ → Type 0
KeepsSecond frame f g =
    (e : ℕ) (body : List ℕ) → Fits e frame body → HasSecond e body f → (selector g ≡ selector f)
    × HasSecond e body g

-- the frame's record was put into the second area, beside the first
abbrev pub PutsSecond : ℕ → List ℕ → List ℕ → List ℕ → Type 0
PutsSecond e frame f g =
    (bodies : List (List ℕ)) (body : List ℕ) → Fits e frame body → HasFirst e bodies f
    → (selector g ≡ selector f) × HasFirst e bodies g × HasSecond e body g

-- the frame's record was put into the first area, beside the second
abbrev pub PutsFirst : List ℕ → List ℕ → List ℕ → Type 0
PutsFirst frame f g =
    (e : ℕ) (body : List ℕ) → Fits e frame body → HasSecond e body f
    → (selector g ≡ selector f) × HasFirst e (body ∷ []) g × HasSecond e body g

-- with the one record in both areas, the image has it
abbrev pub KeepsBoth : List ℕ → List ℕ → List ℕ → Type 0
KeepsBoth frame f g =
    (e : ℕ) (body : List ℕ) → Fits e frame body → HasFirst e (body ∷ []) f → HasSecond e body f
    → HasBodies g (body ∷ [])

-- and then it has it in the first area
abbrev pub LeavesFirst : List ℕ → List ℕ → List ℕ → Type 0
LeavesFirst frame f g =
    (e : ℕ) (body : List ℕ) → Fits e frame body → HasFirst e (body ∷ []) f → HasSecond e body f
    → HasBodiesAt 23 (body ∷ []) g

-- where the second area is current the image has its record
abbrev pub KeepsOne : List ℕ → List ℕ → List ℕ → Type 0
KeepsOne frame f g =
    (e : ℕ) (body : List ℕ) → Fits e frame body → HasSecond e body f → selector f ≡ 1
    → HasBodies g (body ∷ [])

-- and then it has it in the first area
abbrev pub MovesOne : List ℕ → List ℕ → List ℕ → Type 0
MovesOne frame f g =
    (e : ℕ) (body : List ℕ) → Fits e frame body → HasSecond e body f → selector f ≡ 1
    → HasBodiesAt 23 (body ∷ []) g

-- where the first area is current the image has its bodies, or the one in their place
abbrev pub KeepsEither : ℕ → List ℕ → List ℕ → List ℕ → Type 0
KeepsEither e frame f g =
    (bodies : List (List ℕ)) (body : List ℕ) → Fits e frame body → HasFirst e bodies f → selector f ≢ 1
    → HasEither 23 bodies (body ∷ []) g

-- and then it has that one
abbrev pub Replaces : ℕ → List ℕ → List ℕ → List ℕ → Type 0
Replaces e frame f g =
    (bodies : List (List ℕ)) (body : List ℕ) → Fits e frame body → HasFirst e bodies f → selector f ≢ 1
    → HasBodiesAt 23 (body ∷ []) g
