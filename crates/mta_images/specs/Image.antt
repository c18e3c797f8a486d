-- Which history an image of the disk stands for.
use Rattle.std.specs.Prelude.{◌≡◌, ◌⊎◌, ℕ, ◌+◌, ◌<◌, List, [], ◌∷◌, ◌++◌, length, map}
use Rattle.mta_journal.specs.Bodies.{records, HasBodiesAt, HasSecondArea, StandsFor as HoldsBodies}
use Rattle.mta_journal.specs.Faults.{IsNoJournalAt}
use Rattle.mta_records.specs.State.{SnapshotValue}
use Rattle.mta_records.specs.declared.step.Step.{Step}
use Rattle.mta_records.specs.declared.step.Step.TheVariants.{Snapshot}
use Rattle.mta_records.specs.Body.{body_of, HasFields}
use Rattle.mta_histories.specs.History.{IsHistory, IsPossible, after}

-- each step's fields are in their types
abbrev pub AreRecords : List Step → Type 0
AreRecords [] = Unit {0}
AreRecords (step ∷ steps) = HasFields step × AreRecords steps

-- the octets of a journal of these steps whose current area begins at this gate, up to its closed gate and with it
abbrev pub size_of : ℕ → List Step → ℕ
size_of first steps = first + length (records (map body_of steps)) + 1

-- the image has bodies in the only area
pub record HasOnlyArea (image : List ℕ) : Type 0 where
  pub body : List ℕ
  pub bodies : List (List ℕ)
  pub has : HasBodiesAt 8 (body ∷ bodies) image

-- The records of a spool that is opened on a disk of this image stand from this gate on: from gate 8 where the image
-- has bodies in the only area, and else from gate 23, with which the first of two areas begins.
pub data OpensAt (image : List ℕ) (gate : ℕ) : Type 0 where
  in_only : gate ≡ 8 → HasOnlyArea image → OpensAt image gate
  in_first : gate ≡ 23 → (HasOnlyArea image → ⊥) → OpensAt image gate

-- P holds of the octets that a journal of these steps has which is opened on a disk of this image
abbrev pub HasSize : List ℕ → List Step → (ℕ → Type 0) → Type 0
HasSize image steps P = (gate : ℕ) × OpensAt image gate × P (size_of gate steps)

-- the history is one snapshot
abbrev pub IsSnapshot : List Step → Type 0
IsSnapshot steps = (t : SnapshotValue) × (steps ≡ Snapshot t ∷ [])

-- The image stands for this history: as a journal it stands for the bodies of its steps. Where the second of two areas
-- is current it has a snapshot.
pub record StandsFor (image : List ℕ) (steps : List Step) : Type 0 where
  pub bodies : HoldsBodies image (map body_of steps)
  pub each : AreRecords steps
  pub history : IsHistory steps
  pub second : HasSecondArea image → IsSnapshot steps

-- one image stands for one history
abbrev pub OneHistory : Type 0
OneHistory = (image : List ℕ) (s t : List Step) → StandsFor image s → StandsFor image t → s ≡ t

-- no step that is possible behind these has this body
abbrev pub IsNoStep : List Step → List ℕ → Type 0
IsNoStep steps body =
    (step : Step) → HasFields step → body_of step ≡ body → IsPossible (after steps) step → ⊥

-- The bodies, whose records stand from this gate on, begin with those of a history, behind which the next body is that
-- of no step which is possible there. This is the offset of its gate.
pub record StopsAt (first : ℕ) (bodies : List (List ℕ)) (at : ℕ) : Type 0 where
  pub steps : List Step
  pub body : List ℕ
  pub more : List (List ℕ)
  pub bodies_are : bodies ≡ map body_of steps ++ body ∷ more
  pub each : AreRecords steps
  pub history : IsHistory steps
  pub none : IsNoStep steps body
  pub place : at ≡ first + length (records (map body_of steps))

-- the image has bodies, from this gate on, which stop there
pub record HasStop (image : List ℕ) (at : ℕ) : Type 0 where
  pub long : 9 < length image
  pub first : ℕ
  pub bodies : List (List ℕ)
  pub has : HasBodiesAt first bodies image
  pub stops : StopsAt first bodies at

-- no snapshot has this body
abbrev pub IsNoSnapshot : List ℕ → Type 0
IsNoSnapshot body = (t : SnapshotValue) → HasFields (Snapshot t) → body_of (Snapshot t) ≡ body → ⊥

-- The second of two areas is current, its one record is no snapshot, and this is the offset of its gate.
pub record HasOther (image : List ℕ) (at : ℕ) : Type 0 where
  pub second : HasSecondArea image
  pub body : List ℕ
  pub has : HasBodiesAt at (body ∷ []) image
  pub other : IsNoSnapshot body

-- The image is no spool, and this is the offset: it is no journal there, or the bodies that it has stop there, or it
-- has another record there than a snapshot.
abbrev pub NoSpoolAt : List ℕ → ℕ → Type 0
NoSpoolAt image at = IsNoJournalAt image at ⊎ HasStop image at ⊎ HasOther image at

-- such an image stands for no history
abbrev pub NoSpoolHasNoHistory : Type 0
NoSpoolHasNoHistory =
    (image : List ℕ) (at : ℕ) (steps : List Step) → NoSpoolAt image at → StandsFor image steps → ⊥

-- an image is no spool at one place only
abbrev pub OnePlace : Type 0
OnePlace = (image : List ℕ) (at other : ℕ) → NoSpoolAt image at → NoSpoolAt image other → at ≡ other
