-- What opening a journal of marks finds and leaves, and what one mark more does.
use Rattle.std.specs.Prelude.{◌≡◌, ◌⊎◌, ◌+◌, ◌≤◌, ◌<◌, ℕ, List, [], ◌∷◌, ◌++◌, Some, Result, IsErr, IsErrOf, IsOk, map}
use Rattle.mta_edge.specs.Causes.{Rose}
use Rattle.mta_edge.specs.Crashes.{AtAnyMoment, CrashLeaves, Settled}
use Rattle.mta_edge.specs.Views.{DiskView, StaysTold, WhereTold}
use Rattle.mta_images.specs.Image.{OpensAt}
use Rattle.mta_journal.specs.Appending.{journal_limit}
use Rattle.mta_journal.specs.Bodies.{need_of, StandsFor as HoldsBodies}
use Rattle.mta_journal.specs.Opening.{BeforeOrSame as BeforeOrSameJournal, IsSameFrom, IsSynced, KeepsFilled}
use Rattle.mta_journal.specs.Shown.{Holds, IsPlain, Shown as JournalShown}
use Rattle.mta_journal.specs.declared.journal.AppendFault.{AppendFault}
use Rattle.mta_journal.specs.declared.journal.AppendFault.TheVariants as Faults
use Rattle.mta_journal.specs.declared.why.OpenWhy.{OpenWhy}
use Rattle.mta_journal.specs.declared.why.OpenWhy.TheVariants as Whys
use Rattle.mta_marks.specs.declared.mark.Mark.{Mark}
use Rattle.mta_marks.specs.declared.mark.Standing.{Standing}
use Rattle.mta_marks.specs.Image.{NoMarksAt, StandsFor}
use Rattle.mta_marks.specs.Left.{MarksLeft}
use Rattle.mta_marks.specs.Marks.{AreMarks, body_of}
use Rattle.mta_marks.specs.Standings.{Knows}

-- ---- the journal is found

-- The journal was opened and its bodies are those of these marks, for which the disk stood where it told what it holds.
pub record HasFound {E : Type 0} (model : DiskView E) (old : E) (journal : JournalShown E)
    (entries : List (List ℕ × Standing)) : Type 0 where
  pub marks : List Mark
  pub knows : Knows entries marks
  pub holds : Holds model journal (map body_of marks)
  pub are : AreMarks marks
  pub stood : WhereTold model old (λ f. HoldsBodies f (map body_of marks))
  pub some : journal.first ≡ 8 → 9 < journal.size
  pub later : model.faults old ≤ model.faults journal.disk
  pub told : StaysTold model old journal.disk
  pub kept : KeepsFilled model old journal.disk
  pub images : CrashLeaves model (BeforeOrSameJournal model old) old journal.disk
  -- the disk as the call's first sync left it, and that since then a crash leaves the same
  pub first : E
  pub sync : IsSynced model old first
  pub since : WhereTold model old (λ f. IsSameFrom model f old journal.disk (model.moment first))

-- ---- the marks are opened

-- what contracts see: the journal, and what is kept of each entry
pub record Shown (E : Type 0) : Type 0 where
  pub journal : JournalShown E
  pub entries : List (List ℕ × Standing)

-- the journal has these marks, also after a crash, and may be appended to; what is kept of each entry is by them
pub record IsHeld {E : Type 0} (model : DiskView E) (m : Shown E) (marks : List Mark) : Type 0 where
  pub holds : Holds model m.journal (map body_of marks)
  pub are : AreMarks marks
  pub knows : Knows m.entries marks
  pub plain : IsPlain m.journal.first

-- a crash leaves what one before the call might have left, or the same marks
abbrev pub BeforeOrStands : {E : Type 0} → DiskView E → E → List Mark → List ℕ → Type 0
BeforeOrStands model old marks g = model.may_leave old g ⊎ StandsFor g marks

-- since this moment of the call a crash leaves these marks
pub record StandsSince {E : Type 0} (model : DiskView E) (marks : List Mark) (since : ℕ) (new : E) : Type 0 where
  pub until : since ≤ model.moment new
  pub each : (g : List ℕ) → model.left_since new since g → StandsFor g marks

-- The disk was opened: its marks are these, where it told what it held.
pub record HasOpened {E : Type 0} (model : DiskView E) (old : E) (m : Shown E) : Type 0 where
  pub marks : List Mark
  pub held : IsHeld model m marks
  pub stood : WhereTold model old (λ f. StandsFor f marks)
  -- its records stand where those of that disk do, but for one in the second area
  pub place : WhereTold model old (λ f. OpensAt f m.journal.first)
  pub later : model.faults old ≤ model.faults m.journal.disk
  pub told : StaysTold model old m.journal.disk
  pub images : WhereTold model old (λ f. AtAnyMoment model (BeforeOrStands model old marks) old m.journal.disk)
  -- the disk as the call's first sync left it
  pub first : E
  pub sync : IsSynced model old first
  pub since : WhereTold model old (λ f. StandsSince model marks (model.moment first) m.journal.disk)

-- The disk was refused.
pub record HasNotOpened {E : Type 0} (model : DiskView E) (old new : E) (why : OpenWhy) : Type 0 where
  pub disk : why ≡ Whys.Disk → Rose (model.faults old) (model.faults new)
  -- it stands for no marks, and from where on
  pub not_marks : (at : ℕ) → why ≡ Whys.NotSpool at → WhereTold model old (λ f. NoMarksAt f at)
  pub left : MarksLeft model old new [] []

-- why a journal that was found was not settled: of the other faults none comes
abbrev pub why_of_settle : AppendFault → OpenWhy
why_of_settle (Faults.Full size need) = Whys.Memory
why_of_settle Faults.Disk = Whys.Disk
why_of_settle Faults.Ended = Whys.Memory
why_of_settle Faults.Memory = Whys.Memory

-- ---- one mark more

-- the image stands for the marks, or for those and this one
abbrev pub HasOrOneMore : List Mark → Mark → List ℕ → Type 0
HasOrOneMore marks m image = StandsFor image marks ⊎ StandsFor image (marks ++ m ∷ [])

-- What a call leaves of the disk that appends this mark, or refuses it.
pub record Adds {E : Type 0} (model : DiskView E) (marks : List Mark) (mark : Mark) (old : Shown E) (new : E)
    (result : Result (Unit {0}) AppendFault) : Type 0 where
  -- at Ok it stands behind the others, also after a crash
  pub done : IsOk result → WhereTold model new (λ g. StandsFor g (marks ++ mark ∷ []))
  pub settled : IsOk result → Settled model new
  -- the disk tells what it holds where it told it
  pub told : StaysTold model old.journal.disk new
  -- a crash at any moment of the call leaves the marks with it or without it
  pub images : WhereTold model old.journal.disk
      (λ f. AtAnyMoment model (HasOrOneMore marks mark) old.journal.disk new)
  -- at a refusal but the disk's all is as it was
  pub kept : IsErr result → (IsErrOf result Faults.Disk → ⊥) → new ≡ old.journal.disk
  -- Full comes exactly where the record would pass the limit
  pub full : (size need : ℕ) → IsErrOf result (Faults.Full size need)
      → (size ≡ old.journal.size) × (need ≡ need_of (body_of mark)) × (journal_limit < size + need)
  pub fits : IsOk result → old.journal.size + need_of (body_of mark) ≤ journal_limit
  -- Ended never comes
  pub going : IsErrOf result Faults.Ended → ⊥
  -- the disk's count of faults does not fall, and Disk comes only where it rose
  pub later : model.faults old.journal.disk ≤ model.faults new
  pub disk : IsErrOf result Faults.Disk → Rose (model.faults old.journal.disk) (model.faults new)
