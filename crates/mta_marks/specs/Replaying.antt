-- What replaying bodies as marks gives.
use Rattle.std.specs.Prelude.{◌≡◌, ℕ, List, map, Result, IsErrOf, IsOk}
use Rattle.mta_journal.specs.declared.why.OpenWhy.{OpenWhy}
use Rattle.mta_journal.specs.declared.why.OpenWhy.TheVariants as Whys
use Rattle.mta_marks.specs.declared.mark.Mark.{Mark}
use Rattle.mta_marks.specs.declared.mark.Standing.{Standing}
use Rattle.mta_marks.specs.declared.replay.NotTaken.{NotTaken}
use Rattle.mta_marks.specs.declared.replay.NotTaken.TheVariants as NotTakens
use Rattle.mta_marks.specs.Image.{StopsAt}
use Rattle.mta_marks.specs.Marks.{Allows, AreMarks, IsMark, body_of}
use Rattle.mta_marks.specs.Standings.{Changes, Knows, look_at}

-- ---- one body

-- a mark is taken up exactly where it is possible, unless there was no memory
pub record HasTakenMark (m : Mark) (old new : List (List ℕ × Standing)) (result : Result (Unit {0}) NotTaken)
    : Type 0 where
  pub made : IsOk result → Allows (look_at old m) m.kind × Changes m old new
  pub impossible : IsErrOf result NotTakens.Impossible → Allows (look_at old m) m.kind → ⊥

-- the mark of a body was taken up, or it has none that is possible, or there was no memory
pub record HasTaken (body : List ℕ) (old new : List (List ℕ × Standing)) (result : Result (Unit {0}) NotTaken)
    : Type 0 where
  pub made : IsOk result
      → (m : Mark) × IsMark m × (body_of m ≡ body) × Allows (look_at old m) m.kind × Changes m old new
  pub impossible : IsErrOf result NotTakens.Impossible
      → (m : Mark) → IsMark m → body_of m ≡ body → Allows (look_at old m) m.kind → ⊥

-- ---- all bodies

-- these are the marks of the bodies, and it is known what became by them of each entry
pub record IsReplay (bodies : List (List ℕ)) (entries : List (List ℕ × Standing))
    (marks : List Mark) : Type 0 where
  pub bodies_are : map body_of marks ≡ bodies
  pub are : AreMarks marks
  pub knows : Knows entries marks

abbrev pub HasReplayed : List (List ℕ) → List (List ℕ × Standing) → Type 0
HasReplayed bodies entries = (marks : List Mark) × IsReplay bodies entries marks

-- the bodies, whose records stand from this gate on, are those of no marks from a place on, or there was no memory
abbrev pub HasStopped : ℕ → List (List ℕ) → OpenWhy → Type 0
HasStopped first bodies (Whys.NotSpool at) = StopsAt first bodies at
HasStopped first bodies Whys.Disk = ⊥
HasStopped first bodies Whys.Memory = Unit {0}

-- why a body was not taken up whose gate is at this offset
abbrev pub open_why : NotTaken → ℕ → OpenWhy
open_why NotTakens.Impossible at = Whys.NotSpool at
open_why NotTakens.Memory at = Whys.Memory
