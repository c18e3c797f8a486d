-- What a spool stands for, and what a call leaves that makes a step or refuses it.
use Rattle.std.specs.Prelude.{◌≡◌, ◌≢◌, ◌⊎◌, ◌↔◌, ℕ, ◌+◌, ◌≤◌, ◌<◌, ◌^◌, List, [], ◌∷◌, ◌++◌, length, map}
use Rattle.std.specs.Prelude.{Option, None, Some, Result, Ok, Err, true, false, max, min}
use Rattle.mta_ber.specs.Times.{last_moment}
use Rattle.mta_edge.specs.Causes.{Rose}
use Rattle.mta_edge.specs.Views.{ClockView, DiskView, StaysTold}
use Rattle.mta_edge.specs.Crashes.{AtAnyMoment}
use Rattle.mta_journal.specs.Shown.{Shown as JournalShown, Holds, IsPlain}
use Rattle.mta_journal.specs.Appending.{journal_limit}
use Rattle.mta_journal.specs.Bodies.{need_of as need_of_body}
use Rattle.mta_records.specs.declared.fault.StepFault.{StepFault}
use Rattle.mta_records.specs.declared.fault.StepFault.TheVariants as StepFaults
use Rattle.mta_records.specs.declared.step.Step.{Step}
use Rattle.mta_records.specs.Body.{body_of}
use Rattle.mta_histories.specs.Lanes.{State}
use Rattle.mta_histories.specs.Classes.{class_of, Class, opens}
use Rattle.mta_histories.specs.History.{after, after_step, IsHistory, IsPossible, when}
use Rattle.mta_histories.specs.Numbers.{numbers_needed}
use Rattle.mta_images.specs.Image.{AreRecords, IsSnapshot, StandsFor}
use Rattle.mta_spool.specs.Refusals.{IsOfLane, IsRefused}
use Rattle.mta_spool.specs.Shown.{Shown}

-- a journal and the state in memory stand for this history, and a crash leaves it
pub record IsHeld {D : Type 0} (model : DiskView D) (journal : JournalShown D) (state : State) (steps : List Step)
    : Type 0 where
  pub holds : Holds model journal (map body_of steps)
  pub each : AreRecords steps
  pub state_is : state ≡ after steps
  pub history : IsHistory steps
  -- a journal whose records stand in the second area has a snapshot
  pub alone : (IsPlain journal.first → ⊥) → IsSnapshot steps

-- the spool stands for this history, on its disk and in memory
abbrev pub Stands : {D C : Type 0} → DiskView D → Shown D C → List Step → Type 0
Stands model spool steps = IsHeld model spool.journal spool.current steps

-- the octets that a step's record needs: its gate, its body's length and its body
abbrev pub need_of : Step → ℕ
need_of step = need_of_body (body_of step)

-- the moment of a step that is made now: what the clock told, capped, and never below the last moment
abbrev pub step_moment : ℕ → ℕ → ℕ
step_moment told last = max (min told last_moment) last

-- P holds of the moment of a step that is made now
pub record AtMoment {C : Type 0} (model : ClockView C) (clock : C) (last : ℕ) (P : ℕ → Type 0) : Type 0 where
  pub told : ℕ
  pub tells : model.tells clock told
  pub at : P (step_moment told last)

-- the clock may tell no other moments than before
abbrev pub TellsFewer : {C : Type 0} → ClockView C → C → C → Type 0
TellsFewer model old new = (m : ℕ) → model.tells new m → model.tells old m

-- the last number that was given of those of which a step needs some: of lanes where it opens one, else of items
abbrev pub last_number : State → Class → ℕ
last_number s (opens role peer name twa size window) = s.lanes.count
last_number s c = length s.machine.items

-- fewer of them are left than it needs
abbrev pub LacksNumbers : State → Class → Type 0
LacksNumbers s (opens role peer name twa size window) = 2 ^ 32 ≤ s.lanes.count + 1
LacksNumbers s c = 2 ^ 32 ≤ length s.machine.items + numbers_needed s c

abbrev pub IsSpent : State → Step → Type 0
IsSpent s step = LacksNumbers s (class_of step)

-- with this many items fewer numbers are left than are needed
abbrev pub IsSpentFor : (count needed : ℕ) → StepFault → Type 0
IsSpentFor count needed fault = (fault ≡ StepFaults.Spent count) × (2 ^ 32 ≤ count + needed)

-- the image stands for the history, or for that and this step
abbrev pub IsOneOf : List Step → Step → List ℕ → Type 0
IsOneOf steps step image = StandsFor image steps ⊎ StandsFor image (steps ++ step ∷ [])

-- Behind each history for which the spool stood the step was possible, and a crash at any moment of the call leaves
-- the history with it or without it.
pub record MayHave {D : Type 0} (model : DiskView D) (step : Step) (old : JournalShown D) (s : State)
    (new : JournalShown D) : Type 0 where
  pub possible : (steps : List Step) → IsHeld model old s steps → IsPossible (after steps) step
  pub during : (f : List ℕ) → model.content old.disk ≡ Some f → (steps : List Step) → IsHeld model old s steps
      → AtAnyMoment model (IsOneOf steps step) old.disk new.disk
  -- and so does one now
  pub now : (f : List ℕ) → model.content old.disk ≡ Some f → (steps : List Step) → IsHeld model old s steps
      → (g : List ℕ) → model.may_leave new.disk g → IsOneOf steps step g

-- the fault that a call answered, or none at Ok
abbrev pub fault_of : {T : Type 0} → Result T StepFault → Option StepFault
fault_of (Ok x) = None
fault_of (Err fault) = Some fault

-- No fault, or one by which a step of no lane is refused: the refusals of the steps of lanes are none.
abbrev pub IsOfNoLane : Option StepFault → Type 0
IsOfNoLane None = Unit {0}
IsOfNoLane (Some StepFaults.Ended) = Unit {0}
IsOfNoLane (Some (StepFaults.Spent last)) = Unit {0}
IsOfNoLane (Some StepFaults.Memory) = Unit {0}
IsOfNoLane (Some (StepFaults.Full size need)) = Unit {0}
IsOfNoLane (Some StepFaults.Disk) = Unit {0}
IsOfNoLane (Some (StepFaults.Fenced generation)) = ⊥
IsOfNoLane (Some (StepFaults.NoLane lane)) = ⊥
IsOfNoLane (Some (StepFaults.BusyLanes count)) = ⊥
IsOfNoLane (Some StepFaults.Unexpected) = ⊥

-- no refusal for a lane stands for the step
abbrev pub IsOfNoRefusal : State → Step → Type 0
IsOfNoRefusal s step = (f : StepFault) → IsRefused s (class_of step) (when s step) f → ⊥

-- the steps that were made, behind a call that makes this one, or refuses it by this fault
abbrev pub entries_after : List Step → Step → Option StepFault → List Step
entries_after made step None = made ++ step ∷ []
entries_after made step (Some fault) = made

-- What a call that makes this step, or refuses it by this fault, leaves of the journal, of the state in memory, and of
-- the steps that were made since the spool was opened.
pub record Makes {D : Type 0} (model : DiskView D) (step : Step) (old : JournalShown D) (s : State) (made : List Step)
    (new : JournalShown D) (s' : State) (made' : List Step) (fault : Option StepFault) : Type 0 where
  -- where it is a step of lanes it is refused for the lane exactly where that stands, or there was no memory to look
  pub row : (f : StepFault) → fault ≡ Some f → IsOfLane f → IsRefused s (class_of step) (when s step) f
  pub row_where : old.ended ≡ false → (f : StepFault) → IsRefused s (class_of step) (when s step) f
      → (fault ≡ Some f) ⊎ (fault ≡ Some StepFaults.Memory)
  -- where it is made it stands behind every history for which they stood
  pub done : fault ≡ None → (steps : List Step) → IsHeld model old s steps
      → IsHeld model new s' (steps ++ step ∷ [])
  -- in memory is the state after it, and the spool goes on
  pub changed : fault ≡ None → s' ≡ after_step s step
  pub going : fault ≡ None → new.ended ≡ false
  -- it stands behind the steps that were made before
  pub entries : made' ≡ entries_after made step fault
  -- the records stand from the same gate on
  pub place : new.first ≡ old.first
  -- where it is refused, also for the disk, the state in memory is as it was
  pub still : fault ≢ None → s' ≡ s
  -- the disk tells what it holds where it told it
  pub told : StaysTold model old.disk new.disk
  -- where it is made or the disk failed a crash leaves the step or does not
  pub crash : (fault ≡ None) ⊎ (fault ≡ Some StepFaults.Disk) → MayHave model step old s new
  -- where it is refused, but not for the disk, all is as it was
  pub kept : fault ≢ None → fault ≢ Some StepFaults.Disk → (new ≡ old) × (s' ≡ s)
  -- the disk's count of faults does not fall, and Disk comes only where it rose
  pub later : model.faults old.disk ≤ model.faults new.disk
  pub disk : fault ≡ Some StepFaults.Disk → Rose (model.faults old.disk) (model.faults new.disk)
  -- Ended comes exactly where an earlier step answered Disk
  pub ended : (fault ≡ Some StepFaults.Ended) ↔ (old.ended ≡ true)
  pub marked : fault ≡ Some StepFaults.Disk → new.ended ≡ true
  -- Spent comes exactly where too few numbers are left, the spool has not ended and no refusal for a lane stands
  pub spent : (last : ℕ) → fault ≡ Some (StepFaults.Spent last)
      → (last ≡ last_number s (class_of step)) × IsSpent s step
  pub spent_where : old.ended ≡ false → IsOfNoRefusal s step → IsSpent s step
      → fault ≡ Some (StepFaults.Spent (last_number s (class_of step)))
  -- Full comes exactly where the record would pass the limit, numbers are left, and there was memory for it
  pub full : (size need : ℕ) → fault ≡ Some (StepFaults.Full size need)
      → (size ≡ old.size) × (need ≡ need_of step) × (journal_limit < size + need)
  pub full_where : old.ended ≡ false → IsOfNoRefusal s step → (IsSpent s step → ⊥)
      → journal_limit < old.size + need_of step
      → (fault ≡ Some (StepFaults.Full old.size (need_of step))) ⊎ (fault ≡ Some StepFaults.Memory)

-- what a call of the spool that makes this step, or refuses it by this fault, leaves of it
abbrev pub Appends : {D C : Type 0} → DiskView D → Step → Shown D C → Shown D C → Option StepFault → Type 0
Appends model step old new fault =
    Makes model step old.journal old.current old.entries new.journal new.current new.entries fault
