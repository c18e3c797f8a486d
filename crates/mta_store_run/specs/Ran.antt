-- What the status of a run tells.
use Rattle.std.specs.Prelude.{◌≡◌, ◌⊎◌, ℕ, List, [], Option, Some, None}
use Rattle.mta_output.specs.Output.{Output, OutputFailed, Prints}
use Rattle.mta_edge.specs.Views.{WhereTold}
use Rattle.mta_histories.specs.History.{after}
use Rattle.mta_images.specs.Image.{NoSpoolAt}
use Rattle.mta_images.specs.Opened.{IsFullForFormat, Opens}
use Rattle.mta_marks.specs.Image.{NoMarksAt, StandsFor as StandsForMarks}
use Rattle.mta_marks.specs.Left.{MarksLeft}
use Rattle.mta_marks.specs.Marks.{standing}
use Rattle.mta_marks.specs.declared.mark.Mark.{Mark}
use Rattle.mta_records.specs.declared.step.Step.{Step}
use Rattle.mta_store_run.specs.Acting.{Fits, HasMarks, IsFullForMark}
use Rattle.mta_store_run.specs.Outcome.{DiskFailed, GoesOnWith, Handed, MarksFailed, SpoolFailed}
use Rattle.mta_store_run.specs.Store.{Answer, answer_of, gives, made, no_entry, no_mailbox, not_fetched}
use Rattle.mta_store_run.specs.declared.asked.Asked.{Asked}

-- ---- the status for which words and disks call

-- the status of an answer, where the disk of marks has these octets and stands for these
abbrev pub CallsOf : (g : List ℕ) → List Mark → Answer → ℕ → Type 0
CallsOf g marks no_mailbox status = status ≡ 10
CallsOf g marks no_entry status = status ≡ 12
CallsOf g marks not_fetched status = status ≡ 13
CallsOf g marks (gives text None) status = status ≡ 0
CallsOf g marks (gives text (Some mark)) status =
    ((status ≡ 0) × Fits g marks (Some mark))
    ⊎ ((status ≡ 5) × ((size : ℕ) × ((need : ℕ) × IsFullForMark g marks mark size need)))

-- opening the spool goes on from these octets with these steps, and the format fits where it is to be set
pub record OpensWell (f : List ℕ) (steps : List Step) : Type 0 where
  pub found : List Step
  pub opens : Opens f found steps
  pub fits : (size need : ℕ) → IsFullForFormat f size need → ⊥

-- the status where this is asked
pub data CallsAsked (f g : List ℕ) (asked : Asked) (status : ℕ) : Type 0 where
  no_spool : (at : ℕ) → NoSpoolAt f at → status ≡ 3 → CallsAsked f g asked status
  full_spool : (size need : ℕ) → IsFullForFormat f size need → status ≡ 5 → CallsAsked f g asked status
  no_marks : (steps : List Step) (at : ℕ) → OpensWell f steps → NoMarksAt g at → status ≡ 14
      → CallsAsked f g asked status
  answers : (steps : List Step) (marks : List Mark) → OpensWell f steps → StandsForMarks g marks
      → CallsOf g marks (answer_of asked (after steps) (standing marks)) status → CallsAsked f g asked status

-- the status, where the disk of the spool has these octets and that of the marks those
abbrev pub CallsFor : (f g : List ℕ) → Option Asked → ℕ → Type 0
CallsFor f g None status = status ≡ 1
CallsFor f g (Some asked) status = CallsAsked f g asked status

module _ {D E : Type 0} (h : Handed D E) (out : Output) (status : ℕ) where
  -- memory ran out, or a disk or the output failed
  abbrev pub Fails : Type 0
  Fails = (status ≡ 7) ⊎ ((status ≡ 4) × DiskFailed h) ⊎ ((status ≡ 9) × OutputFailed out)

  -- ---- status 0

  -- What is printed is the answer in the state of the spool that was opened and by the marks as they stood, and the
  -- mark that goes with it stands behind these, and nothing else was added.
  pub record PrintsAnswer : Type 0 where
    pub asked : Asked
    pub asked_is : h.asked ≡ Some asked
    pub steps : List Step
    pub goes_on : GoesOnWith h steps
    pub text : List ℕ
    pub mark : Option Mark
    pub marks : List Mark
    pub has : HasMarks h.marked h.marks marks
    pub answer : answer_of asked (after steps) (standing marks) ≡ gives text mark
    pub printed : Prints out text
    pub left : MarksLeft h.marked h.marks h.marks_after (made mark) []

-- What a status tells by itself. Want of memory, 7, is free.
pub record TellsStatus {D E : Type 0} (h : Handed D E) (out : Output) (status : ℕ) : Type 0 where
  -- where both disks tell what they hold the status is the one for which the words and these call, and no other
  pub exact : (f g : List ℕ) (wanted : ℕ) → h.spools.content h.spool ≡ Some f
      → h.marked.content h.marks ≡ Some g
      → CallsFor f g h.asked wanted → (status ≡ wanted) ⊎ Fails h out status
  pub only : (f g : List ℕ) → h.spools.content h.spool ≡ Some f → h.marked.content h.marks ≡ Some g
      → CallsFor f g h.asked status ⊎ Fails h out status
  -- with status 0 the answer is printed, whether they tell it or not
  pub answered : status ≡ 0 → PrintsAnswer h out status
  -- 1 comes exactly where the words ask nothing, but for want of memory and a fault of the output; then no disk is
  -- called
  pub usage : status ≡ 1 → (h.asked ≡ None) × (h.spool_after ≡ h.spool) × (h.marks_after ≡ h.marks)
  pub usage_where : h.asked ≡ None → (status ≡ 1) ⊎ (status ≡ 7) ⊎ ((status ≡ 9) × OutputFailed out)
  -- 3 and 14 come only where a disk that tells what it holds holds no spool, or no marks
  pub no_spool : status ≡ 3 → (at : ℕ) × WhereTold h.spools h.spool (λ f. NoSpoolAt f at)
  pub no_marks : status ≡ 14 → (at : ℕ) × WhereTold h.marked h.marks (λ g. NoMarksAt g at)
  pub disk : status ≡ 4 → DiskFailed h
  pub sink : status ≡ 9 → OutputFailed out

-- ---- completeness

-- All is in order, and nothing fails.
pub record AllInOrder {D E : Type 0} (h : Handed D E) (out : Output) : Type 0 where
  pub f : List ℕ
  pub g : List ℕ
  pub spool_told : h.spools.content h.spool ≡ Some f
  pub marks_told : h.marked.content h.marks ≡ Some g
  pub asks : CallsFor f g h.asked 0
  pub calm_spool : SpoolFailed h → ⊥
  pub calm_marks : MarksFailed h → ⊥
  pub calm_output : OutputFailed out → ⊥

-- Then the status is 0, or memory ran out.
abbrev pub IsComplete : {D E : Type 0} → Handed D E → Output → ℕ → Type 0
IsComplete h out status = AllInOrder h out → (status ≡ 0) ⊎ (status ≡ 7)
