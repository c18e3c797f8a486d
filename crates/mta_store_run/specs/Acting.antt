-- What comes of the marks once the spool is open.
use Rattle.std.specs.Prelude.{◌≡◌, ◌+◌, ◌<◌, ℕ, List, [], ◌∷◌, Option, Some, None, Result, Ok, Err}
use Rattle.mta_commands.specs.declared.stop.Stop.TheVariants as AgentStops
use Rattle.mta_edge.specs.Causes.{Rose}
use Rattle.mta_edge.specs.Views.{DiskView, WhereTold}
use Rattle.mta_histories.specs.Lanes.{State}
use Rattle.mta_journal.specs.Appending.{journal_limit}
use Rattle.mta_journal.specs.Bodies.{need_of}
use Rattle.mta_journal.specs.declared.journal.AppendFault.{AppendFault}
use Rattle.mta_marks.specs.Image.{HasSize, NoMarksAt, StandsFor}
use Rattle.mta_marks.specs.Left.{MarksLeft}
use Rattle.mta_marks.specs.Marks.{IsPossible, body_of, standing}
use Rattle.mta_marks.specs.Opening.{Adds, IsHeld, Shown}
use Rattle.mta_marks.specs.declared.mark.Mark.{Mark}
use Rattle.mta_store_run.specs.Decided.{TellsAnswer}
use Rattle.mta_store_run.specs.Stops.{stop_of_add}
use Rattle.mta_store_run.specs.Store.{answer_of, gives, made}
use Rattle.mta_store_run.specs.declared.asked.Asked.{Asked}
use Rattle.mta_store_run.specs.declared.stop.Stop.{Stop}
use Rattle.mta_store_run.specs.declared.stop.Stop.TheVariants as Stops

-- ---- whether a mark fits

-- The record of this mark would pass the limit behind these marks: the journal has so many octets, and the record
-- needs so many.
pub record IsFullForMark (image : List ℕ) (marks : List Mark) (mark : Mark) (size need : ℕ) : Type 0 where
  pub used : HasSize image marks (λ used. size ≡ used)
  pub need_is : need ≡ need_of (body_of mark)
  pub over : journal_limit < size + need

-- it does not, where one is made
abbrev pub Fits : List ℕ → List Mark → Option Mark → Type 0
Fits image marks None = Unit {0}
Fits image marks (Some mark) = (size need : ℕ) → IsFullForMark image marks mark size need → ⊥

-- ---- what comes of a command

-- the disk stands for these marks, where it tells what it holds
abbrev pub HasMarks : {E : Type 0} → DiskView E → E → List Mark → Type 0
HasMarks disks disk marks = WhereTold disks disk (λ g. StandsFor g marks)

-- What comes of what is asked in this state of the spool, with the mark that was appended and the one in which the disk
-- failed, if there is one: the disk stands for no marks; or by its marks the answer is told; or it is a text, with the
-- mark appended that is made; or this mark does not fit; or the disk failed, in opening or in this mark; or memory ran
-- out.
pub data ActOutcome {E : Type 0} (disks : DiskView E) (asked : Asked) (s : State) (old new : E)
    : (added torn_mark : List Mark) → Result (List ℕ) Stop → Type 0 where
  short : ActOutcome disks asked s old new [] [] (Err (Stops.Agent AgentStops.Memory))
  no_marks : (at : ℕ) → WhereTold disks old (λ g. NoMarksAt g at)
      → ActOutcome disks asked s old new [] [] (Err (Stops.NotMarks at))
  not_opened : Rose (disks.faults old) (disks.faults new)
      → ActOutcome disks asked s old new [] [] (Err (Stops.Agent AgentStops.Disk))
  told : (marks : List Mark) (stop : Stop) → HasMarks disks old marks
      → TellsAnswer asked (answer_of asked s (standing marks)) stop
      → ActOutcome disks asked s old new [] [] (Err stop)
  full : (marks : List Mark) (mark : Mark) (text : List ℕ) (size need : ℕ) → HasMarks disks old marks
      → answer_of asked s (standing marks) ≡ gives text (Some mark)
      → WhereTold disks old (λ g. IsFullForMark g marks mark size need)
      → ActOutcome disks asked s old new [] [] (Err (Stops.Agent (AgentStops.Full size need)))
  failed : (marks : List Mark) (mark : Mark) (text : List ℕ) → HasMarks disks old marks
      → answer_of asked s (standing marks) ≡ gives text (Some mark)
      → Rose (disks.faults old) (disks.faults new)
      → ActOutcome disks asked s old new [] (mark ∷ []) (Err (Stops.Agent AgentStops.Disk))
  done : (marks : List Mark) (text : List ℕ) (mark : Option Mark) → HasMarks disks old marks
      → answer_of asked s (standing marks) ≡ gives text mark
      → WhereTold disks old (λ g. Fits g marks mark)
      → ActOutcome disks asked s old new (made mark) [] (Ok text)

-- what it leaves
pub record HasActed {E : Type 0} (disks : DiskView E) (asked : Asked) (s : State) (old new : E)
    (result : Result (List ℕ) Stop) : Type 0 where
  pub added : List Mark
  pub torn_mark : List Mark
  pub left : MarksLeft disks old new added torn_mark
  pub outcome : ActOutcome disks asked s old new added torn_mark result

-- a mark was appended, and there is the text; or it was not, and there is why
abbrev pub IsMarkedAs : Result (Unit {0}) AppendFault → List ℕ → Result (List ℕ) Stop → Type 0
IsMarkedAs (Ok appended) text result = result ≡ Ok text
IsMarkedAs (Err fault) text result = result ≡ Err (stop_of_add fault)

pub record HasMarked {E : Type 0} (disks : DiskView E) (m : Shown E) (mark : Mark) (text : List ℕ) (new : E)
    (result : Result (List ℕ) Stop) : Type 0 where
  pub appended : Result (Unit {0}) AppendFault
  pub adds : (marks : List Mark) → IsHeld disks m marks → IsPossible marks mark
      → Adds disks marks mark m new appended
  pub result_is : IsMarkedAs appended text result
