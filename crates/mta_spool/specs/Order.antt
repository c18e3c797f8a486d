-- In which order the refusals of a step come, as one definition.
use Rattle.std.specs.Prelude.{◌≡◌, ◌⊎◌, ℕ, ◌+◌, ◌<◌, true, List, Option, Some}
use Rattle.mta_edge.specs.Views.{DiskView}
use Rattle.mta_journal.specs.Shown.{Shown as JournalShown}
use Rattle.mta_journal.specs.Appending.{journal_limit}
use Rattle.mta_records.specs.declared.fault.StepFault.{StepFault}
use Rattle.mta_records.specs.declared.fault.StepFault.TheVariants as Faults
use Rattle.mta_records.specs.declared.step.Step.{Step}
use Rattle.mta_histories.specs.Classes.{class_of}
use Rattle.mta_histories.specs.History.{when}
use Rattle.mta_histories.specs.Lanes.{State}
use Rattle.mta_spool.specs.Refusals.{IsRefused}
use Rattle.mta_spool.specs.Stands.{IsSpent, last_number, Makes, need_of}

-- The order. Octets that are bad, which `secure` and `complete` alone tell, have place 5.
abbrev pub place_of : StepFault → ℕ
place_of Faults.Ended = 0
place_of (Faults.NoLane lane) = 1
place_of (Faults.Fenced generation) = 2
place_of Faults.Unexpected = 3
place_of (Faults.BusyLanes count) = 4
place_of (Faults.Spent last) = 6
place_of Faults.Memory = 7
place_of (Faults.Full size need) = 8
place_of Faults.Disk = 9

-- What the refusal tells is so of the journal and the state before the step. Want of memory and a disk that fails are
-- seen of neither.
abbrev pub IsCause : {D : Type 0} → JournalShown D → State → Step → StepFault → Type 0
IsCause journal s step Faults.Ended = journal.ended ≡ true
IsCause journal s step (Faults.Spent last) = (last ≡ last_number s (class_of step)) × IsSpent s step
IsCause journal s step (Faults.Full size need) =
    (size ≡ journal.size) × (need ≡ need_of step) × (journal_limit < size + need)
IsCause journal s step Faults.Memory = ⊥
IsCause journal s step Faults.Disk = ⊥
IsCause journal s step fault = IsRefused s (class_of step) (when s step) fault

-- and no cause stands before it in the order
pub record IsFirstCause {D : Type 0} (journal : JournalShown D) (s : State) (step : Step) (fault : StepFault)
    : Type 0 where
  pub cause : IsCause journal s step fault
  pub first : (before : StepFault) → IsCause journal s step before → place_of before < place_of fault → ⊥

-- The first cause is told, whatever call makes the step or refuses it; or there was no memory to find it or to make
-- the step.
abbrev pub FirstCauseIsTold : {D : Type 0} → DiskView D → Type 0
FirstCauseIsTold {D} model =
    (step : Step) (old new : JournalShown D) (s t : State) (a b : List Step) (fault : Option StepFault)
    → Makes model step old s a new t b fault → (first : StepFault) → IsFirstCause old s step first
    → (fault ≡ Some first) ⊎ (fault ≡ Some Faults.Memory)
