-- Which marks an image of the disk stands for.
use Rattle.std.specs.Prelude.{◌≡◌, ◌⊎◌, ◌+◌, ◌<◌, ℕ, List, ◌∷◌, ◌++◌, length, map}
use Rattle.mta_journal.specs.Bodies.{records, HasBodiesAt, StandsFor as HoldsBodies}
use Rattle.mta_journal.specs.Faults.{IsNoJournalAt}
use Rattle.mta_images.specs.Image.{OpensAt}
use Rattle.mta_marks.specs.declared.mark.Mark.{Mark}
use Rattle.mta_marks.specs.Marks.{AreMarks, IsMark, IsPossible, body_of}

-- as a journal it stands for the bodies of these marks, each of which is possible behind those before it
pub record StandsFor (image : List ℕ) (marks : List Mark) : Type 0 where
  pub bodies : HoldsBodies image (map body_of marks)
  pub are : AreMarks marks

-- no mark that is possible behind these has this body
abbrev pub IsNoMark : List Mark → List ℕ → Type 0
IsNoMark marks body = (m : Mark) → IsMark m → body_of m ≡ body → IsPossible marks m → ⊥

-- The bodies, whose records stand from this gate on, begin with those of marks, behind which the next body is that of
-- no mark which is possible there. This is the offset of its gate.
pub record StopsAt (first : ℕ) (bodies : List (List ℕ)) (at : ℕ) : Type 0 where
  pub marks : List Mark
  pub body : List ℕ
  pub more : List (List ℕ)
  pub bodies_are : bodies ≡ map body_of marks ++ body ∷ more
  pub are : AreMarks marks
  pub none : IsNoMark marks body
  pub place : at ≡ first + length (records (map body_of marks))

-- the image has bodies, from some gate on, which stop there
pub record HasStop (image : List ℕ) (at : ℕ) : Type 0 where
  pub long : 9 < length image
  pub first : ℕ
  pub bodies : List (List ℕ)
  pub has : HasBodiesAt first bodies image
  pub stops : StopsAt first bodies at

-- the image stands for no marks: it is no journal at this offset, or the bodies that it has stop there
abbrev pub NoMarksAt : List ℕ → ℕ → Type 0
NoMarksAt image at = IsNoJournalAt image at ⊎ HasStop image at

-- the octets of a journal of these marks whose records stand from this gate on
abbrev pub size_of : ℕ → List Mark → ℕ
size_of first marks = first + length (records (map body_of marks)) + 1

-- P holds of the octets that a journal of these marks has which is opened on a disk of this image
abbrev pub HasSize : List ℕ → List Mark → (ℕ → Type 0) → Type 0
HasSize image marks P = (gate : ℕ) × OpensAt image gate × P (size_of gate marks)

-- one image stands for one list of marks
abbrev pub OneList : Type 0
OneList = (image : List ℕ) (s t : List Mark) → StandsFor image s → StandsFor image t → s ≡ t

-- one that stands for none does so at one place
abbrev pub OnePlace : Type 0
OnePlace = (image : List ℕ) (at other : ℕ) → NoMarksAt image at → NoMarksAt image other → at ≡ other

-- and stands for no list
abbrev pub NoMarksHaveNone : Type 0
NoMarksHaveNone = (image : List ℕ) (at : ℕ) (marks : List Mark) → NoMarksAt image at → StandsFor image marks
    → ⊥
