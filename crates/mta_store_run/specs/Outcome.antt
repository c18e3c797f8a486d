-- What comes of a run before anything is printed.
use Rattle.std.specs.Prelude.{◌≡◌, ◌⊎◌, ℕ, List, [], Option, Some, None, Result, Err}
use Rattle.mta_commands.specs.DiskLeft.{DiskLeft, Opening, opened, refused, uncalled}
use Rattle.mta_commands.specs.Images.{IsSafeBefore}
use Rattle.mta_output.specs.Output.{Output}
use Rattle.mta_commands.specs.declared.stop.Stop.TheVariants as AgentStops
use Rattle.mta_edge.specs.Causes.{Rose}
use Rattle.mta_edge.specs.Views.{DiskView, WhereTold}
use Rattle.mta_histories.specs.History.{after}
use Rattle.mta_images.specs.Image.{NoSpoolAt}
use Rattle.mta_images.specs.Opened.{IsFullForFormat, Opens}
use Rattle.mta_marks.specs.Left.{MarksLeft}
use Rattle.mta_marks.specs.declared.mark.Mark.{Mark}
use Rattle.mta_records.specs.declared.step.Step.{Step}
use Rattle.mta_store_run.specs.Acting.{ActOutcome}
use Rattle.mta_store_run.specs.Output.{HasClosed}
use Rattle.mta_store_run.specs.declared.asked.Asked.{Asked}
use Rattle.mta_store_run.specs.declared.stop.Stop.{Stop}
use Rattle.mta_store_run.specs.declared.stop.Stop.TheVariants as Stops

-- ---- what is handed in

-- what the words ask, where they ask something; and the disks before a run and behind it; the models say what these
-- tell of themselves
pub record Handed (D E : Type 0) : Type 1 where
  pub spools : DiskView D
  pub marked : DiskView E
  pub asked : Option Asked
  pub spool : D
  pub spool_after : D
  pub marks : E
  pub marks_after : E

abbrev pub handed : {D E : Type 0} → DiskView D → DiskView E → Option Asked → D → D → E → E → Handed D E
handed spools marked asked spool spool_after marks marks_after = record {
  spools = spools;
  marked = marked;
  asked = asked;
  spool = spool;
  spool_after = spool_after;
  marks = marks;
  marks_after = marks_after;
}

module _ {D E : Type 0} (h : Handed D E) where
  abbrev pub SpoolFailed : Type 0
  SpoolFailed = Rose (h.spools.faults h.spool) (h.spools.faults h.spool_after)

  abbrev pub MarksFailed : Type 0
  MarksFailed = Rose (h.marked.faults h.marks) (h.marked.faults h.marks_after)

  abbrev pub DiskFailed : Type 0
  DiskFailed = SpoolFailed ⊎ MarksFailed

  -- opening the spool goes on with these steps, where its disk tells what it holds
  abbrev pub GoesOnWith : List Step → Type 0
  GoesOnWith steps = WhereTold h.spools h.spool (λ f. (found : List Step) × Opens f found steps)

-- ---- what comes of it

-- The words ask nothing, or there was no memory for them: no disk is called. Or the spool was not opened, and the marks
-- are not called. Or it was, and goes on with these steps; what is asked is answered in the state behind them.
pub data Outcome {D E : Type 0} (h : Handed D E) : Opening → (added torn_mark : List Mark) → Result (List ℕ) Stop
    → Type 0 where
  unasked : h.asked ≡ None → h.marks_after ≡ h.marks → Outcome h uncalled [] [] (Err Stops.Usage)
  unread : h.marks_after ≡ h.marks → Outcome h uncalled [] [] (Err (Stops.Agent AgentStops.Memory))
  no_spool : (asked : Asked) (at : ℕ) → h.asked ≡ Some asked → WhereTold h.spools h.spool (λ f. NoSpoolAt f at)
      → h.marks_after ≡ h.marks → Outcome h refused [] [] (Err (Stops.Agent (AgentStops.NotSpool at)))
  full_spool : (asked : Asked) (size need : ℕ) → h.asked ≡ Some asked
      → WhereTold h.spools h.spool (λ f. IsFullForFormat f size need)
      → h.marks_after ≡ h.marks → Outcome h refused [] [] (Err (Stops.Agent (AgentStops.Full size need)))
  spool_failed : (asked : Asked) → h.asked ≡ Some asked → SpoolFailed h
      → h.marks_after ≡ h.marks → Outcome h refused [] [] (Err (Stops.Agent AgentStops.Disk))
  spool_short : h.marks_after ≡ h.marks → Outcome h refused [] [] (Err (Stops.Agent AgentStops.Memory))
  acted : (asked : Asked) (steps : List Step) (added torn_mark : List Mark) (result : Result (List ℕ) Stop)
      → h.asked ≡ Some asked → GoesOnWith h steps
      → WhereTold h.spools h.spool (λ f. (size need : ℕ) → IsFullForFormat f size need → ⊥)
      → ActOutcome h.marked asked (after steps) h.marks h.marks_after added torn_mark result
      → Outcome h opened added torn_mark result

-- What becomes of the disks. The spool is opened, and no step is made.
pub record DisksLeft {D E : Type 0} (h : Handed D E) (opening : Opening) (added torn_mark : List Mark) : Type 0 where
  pub spool : DiskLeft h.spools h.spool h.spool_after opening [] []
  pub spool_before : (f : List ℕ) (found steps : List Step) → h.spools.content h.spool ≡ Some f
      → Opens f found steps
      → IsSafeBefore h.spools f steps [] h.spool h.spool_after
  pub marks : MarksLeft h.marked h.marks h.marks_after added torn_mark

-- what is left before anything is printed
pub record HasDone {D E : Type 0} (h : Handed D E) (result : Result (List ℕ) Stop) : Type 0 where
  pub opening : Opening
  pub added : List Mark
  pub torn_mark : List Mark
  pub disks : DisksLeft h opening added torn_mark
  pub outcome : Outcome h opening added torn_mark result

-- What a run leaves: the disks, and what is printed, which is a text, or the line of a stop that has its cause.
pub record HasRun {D E : Type 0} (h : Handed D E) (out : Output) (status : ℕ) : Type 0 where
  pub result : Result (List ℕ) Stop
  pub done : HasDone h result
  pub closed : HasClosed result out status
