-- What `submit` adds to a spool.
use Rattle.std.specs.Prelude.{◌≡◌, ◌⊎◌, ◌^◌, ℕ, ◌+◌, ◌≤◌, ◌<◌, List, [], ◌∷◌}
use Rattle.std.specs.Prelude.{◌++◌, length, Bool, true, false}
use Rattle.std.specs.Prelude.{count_by, min, max, Some, Result, Ok, Err}
use Rattle.mta_edge.specs.Causes.{Rose}
use Rattle.mta_edge.specs.Views.{DiskView, StaysTold}
use Rattle.mta_records.specs.declared.step.Step.{Step}
use Rattle.mta_records.specs.declared.step.Step.TheVariants.{Tables, Accept}
use Rattle.mta_records.specs.declared.fault.StepFault.{StepFault}
use Rattle.mta_records.specs.declared.fault.StepFault.TheVariants as StepFaults
use Rattle.mta_journal.specs.Appending.{journal_limit}
use Rattle.mta_histories.specs.Lanes.{State}
use Rattle.mta_histories.specs.Classes.{LaneStep, abandon, Class, class_of}
use Rattle.mta_histories.specs.Classes as classes
use Rattle.mta_histories.specs.Due.{IsQuiet, IsNext}
use Rattle.mta_histories.specs.History.{IsHistory, when, after, after_step}
use Rattle.mta_spool.specs.Shown.{Shown}
use Rattle.mta_spool.specs.Stands.{Stands, step_moment, need_of, IsSpent}
use Rattle.mta_spool.specs.Turning.{IsRecorded}
use Rattle.mta_spool.specs.Moments.{IsTimed}
use Rattle.mta_commands.specs.declared.stop.Stop.{Stop}
use Rattle.mta_commands.specs.declared.stop.Stop.TheVariants as Stops
use Rattle.mta_spool.specs.Crashing.{Leaves}
use Rattle.mta_commands.specs.Lines.{accepted_line}
use Rattle.mta_output.specs.Output.{Output, Prints, PrintsFront}
use Rattle.mta_commands.specs.Output.{PrintsOrFails}

-- ---- whose the steps are

-- of the steps on lanes the one that gives an activity up, whose item has expired
abbrev pub IsOwnOnLane : (ℕ → Type 0) → (last : ℕ) → LaneStep → (moment : ℕ) → Type 0
IsOwnOnLane tells last (abandon k) moment = IsTimed tells last moment
IsOwnOnLane tells last step moment = ⊥

abbrev pub IsOwnOf : (ℕ → Type 0) → (conf input : List ℕ) → (last : ℕ) → Class → (moment : ℕ)
    → Type 0
IsOwnOf tells conf input last (classes.begins t) moment = ⊥
IsOwnOf tells conf input last classes.sets_format moment = ⊥
IsOwnOf tells conf input last (classes.records text) moment = text ≡ conf
IsOwnOf tells conf input last (classes.accepts octets) moment = (octets ≡ input) × IsTimed tells last moment
IsOwnOf tells conf input last (classes.settles how i r) moment = IsTimed tells last moment
IsOwnOf tells conf input last (classes.opens role peer reference twa checkpoint window) moment = ⊥
IsOwnOf tells conf input last (classes.on_lane n generation step) moment = IsOwnOnLane tells last step moment

-- In a state, a step of these tables, or of this input, or one that settles a recipient or gives an activity up, at a
-- moment of this clock. No other step on a lane is one, and none opens a lane, begins the history or sets the format.
abbrev pub IsOwn : (ℕ → Type 0) → (conf input : List ℕ) → State → Step → Type 0
IsOwn tells conf input s step = IsOwnOf tells conf input s.moment (class_of step) (when s step)

abbrev pub AreOwn : (ℕ → Type 0) → (conf input : List ℕ) → State → List Step → Type 0
AreOwn tells conf input s [] = Unit {0}
AreOwn tells conf input s (step ∷ steps) = IsOwn tells conf input s step
    × AreOwn tells conf input (after_step s step) steps

-- ---- their order

abbrev pub turn_of_class : Class → ℕ
turn_of_class (classes.begins t) = 0
turn_of_class classes.sets_format = 0
turn_of_class (classes.records text) = 0
turn_of_class (classes.accepts octets) = 1
turn_of_class (classes.settles how i r) = 2
turn_of_class (classes.opens role peer reference twa checkpoint window) = 2
turn_of_class (classes.on_lane n generation step) = 2

-- The turn of a step: first the tables, then the APDU, then what is due.
abbrev pub turn_of : Step → ℕ
turn_of step = turn_of_class (class_of step)

-- the turn behind a step: tables and an APDU come once
abbrev pub turn_behind : Step → ℕ
turn_behind step = min (turn_of step + 1) 2

-- From this turn on the steps come in their turns. Only the tables may be left out, where they are those recorded last.
abbrev pub AreInTurn : ℕ → List Step → Type 0
AreInTurn turn [] = Unit {0}
AreInTurn turn (step ∷ steps) =
    (turn ≤ turn_of step) × (turn_of step ≤ max turn 1) × AreInTurn (turn_behind step) steps

-- the turn behind steps
abbrev pub turn_after : ℕ → List Step → ℕ
turn_after turn [] = turn
turn_after turn (step ∷ steps) = turn_after (turn_behind step) steps

abbrev pub takes_apdu : Class → Bool
takes_apdu (classes.begins t) = false
takes_apdu classes.sets_format = false
takes_apdu (classes.records text) = false
takes_apdu (classes.accepts octets) = true
takes_apdu (classes.settles how i r) = false
takes_apdu (classes.opens role peer reference twa checkpoint window) = false
takes_apdu (classes.on_lane n generation step) = false

abbrev pub is_accept : Step → Bool
is_accept step = takes_apdu (class_of step)

-- how many APDUs the steps take
abbrev pub accepts : List Step → ℕ
accepts steps = count_by is_accept steps

-- ---- refusals

-- Behind the added steps, in this state, this is the step that `submit` makes next: the tables, where they are not
-- those recorded last; else the APDU, where it was not accepted; else what is due for the lowest item and
-- recipient, at a moment that the clock tells.
pub data IsNextStep (tells : ℕ → Type 0) (conf input : List ℕ) (added : List Step) (s : State)
    : Step → Type 0 where
  tables : turn_after 0 added ≡ 0 → (IsRecorded s conf → ⊥)
      → IsNextStep tells conf input added s (Tables conf)
  apdu : (moment : ℕ) → turn_after 0 added ≤ 1 → IsRecorded s conf → IsTimed tells s.moment moment
      → IsNextStep tells conf input added s (Accept moment input)
  due : (moment : ℕ) (step : Step) → turn_after 0 added ≡ 2 → IsTimed tells s.moment moment
      → IsNext s moment step → IsNextStep tells conf input added s step

-- The step that is next was refused: in a journal of this size its record would pass the limit.
pub record IsFullFor (tells : ℕ → Type 0) (conf input : List ℕ) (added : List Step) (s : State)
    (journal_size size need : ℕ) : Type 0 where
  pub step : Step
  pub next : IsNextStep tells conf input added s step
  pub size_is : size ≡ journal_size
  pub need_is : need ≡ need_of step
  pub over : journal_limit < size + need

-- The step that is next was refused: fewer numbers than it needs are left for items.
pub record IsSpentFor (tells : ℕ → Type 0) (conf input : List ℕ) (added : List Step) (s : State) (last : ℕ)
    : Type 0 where
  pub step : Step
  pub next : IsNextStep tells conf input added s step
  pub last_is : last ≡ length s.machine.items
  pub over : IsSpent s step

-- why a step of `submit` was refused, as the state and the size of the journal show it
abbrev pub IsRefusal : (ℕ → Type 0) → (conf input : List ℕ) → (added : List Step) → State → (size : ℕ)
    → (failed : Type 0) → StepFault → Type 0
IsRefusal tells conf input added s size failed (StepFaults.Full used need) =
    IsFullFor tells conf input added s size used need
IsRefusal tells conf input added s size failed (StepFaults.Spent last) = IsSpentFor tells conf input added s last
IsRefusal tells conf input added s size failed StepFaults.Disk = failed
IsRefusal tells conf input added s size failed StepFaults.Ended = ⊥
IsRefusal tells conf input added s size failed StepFaults.Memory = Unit {0}
IsRefusal tells conf input added s size failed (StepFaults.Fenced generation) = ⊥
IsRefusal tells conf input added s size failed (StepFaults.NoLane lane) = ⊥
IsRefusal tells conf input added s size failed (StepFaults.BusyLanes count) = ⊥
IsRefusal tells conf input added s size failed StepFaults.Unexpected = ⊥

-- ---- the item

-- Among the added steps is an Accept of the input, and it makes the item of this number, which is the next one
-- behind the history. The tables recorded last are these.
pub record IsAccepted (steps added : List Step) (input : List ℕ) (n : ℕ) : Type 0 where
  pub front : List Step
  pub moment : ℕ
  pub back : List Step
  pub accept : added ≡ front ++ Accept moment input ∷ back
  pub number : n ≡ length (after (steps ++ front)).machine.items + 1
  pub next : n ≡ length (after steps).machine.items + 1

-- ---- calls on an open spool

-- The steps were added to a spool, behind every history that it stood for. `torn_step` is the step in which its
-- disk failed, if it did.
pub record Adds {D C : Type 0} (disks : DiskView D) (tells : ℕ → Type 0) (conf input : List ℕ)
    (old new : Shown D C) (added torn_step : List Step) (failed : Type 0) : Type 0 where
  pub stands : (failed → ⊥) → (steps : List Step) → Stands disks old steps → Stands disks new (steps ++ added)
  pub calm : (failed → ⊥) → torn_step ≡ []
  pub one : length torn_step ≤ 1
  pub later : disks.faults old.journal.disk ≤ disks.faults new.journal.disk
  pub told : StaysTold disks old.journal.disk new.journal.disk
  pub place : new.journal.first ≡ old.journal.first
  pub entries : new.entries ≡ old.entries ++ added
  pub history : (steps : List Step) → Stands disks old steps → IsHistory (steps ++ (added ++ torn_step))
  pub own : (steps : List Step) → Stands disks old steps
      → AreOwn tells conf input (after steps) (added ++ torn_step)
  pub leaves : (f : List ℕ) → disks.content old.journal.disk ≡ Some f → (steps : List Step)
      → Stands disks old steps → Leaves disks steps added torn_step old.journal.disk new.journal.disk

-- the tables were recorded where they changed, and the input accepted; or one of these was refused
pub record HasStored {D C : Type 0} (disks : DiskView D) (tells : ℕ → Type 0) (conf input : List ℕ) (old new
    : Shown D C) (result : Result ℕ StepFault) : Type 0 where
  pub added : List Step
  pub torn_step : List Step
  pub adds : Adds disks tells conf input old new added torn_step (result ≡ Err StepFaults.Disk)
  pub in_turn : AreInTurn 0 (added ++ torn_step)
  pub small : (n : ℕ) → result ≡ Ok n → n < 2 ^ 32
  pub accepted : (n : ℕ) → result ≡ Ok n → (steps : List Step) → Stands disks old steps
      → IsAccepted steps added input n
  pub turn : (n : ℕ) → result ≡ Ok n → turn_after 0 added ≡ 2
  pub tables : (n : ℕ) → result ≡ Ok n → IsRecorded new.current conf
  pub refused : (fault : StepFault) → result ≡ Err fault
      → IsRefusal tells conf input added new.current new.journal.size (Rose (disks.faults old.journal.disk)
      (disks.faults new.journal.disk)) fault
  pub going : (n : ℕ) → result ≡ Ok n → new.journal.ended ≡ false

-- all that was due was done, or a step of it was refused; what is due changes no tables
pub record HasSettled {D C : Type 0} (disks : DiskView D) (tells : ℕ → Type 0) (old new : Shown D C) (result
    : Result (Unit {0}) StepFault) : Type 0 where
  pub added : List Step
  pub torn_step : List Step
  pub adds : (conf input : List ℕ)
      → Adds disks tells conf input old new added torn_step (result ≡ Err StepFaults.Disk)
  pub in_turn : AreInTurn 2 (added ++ torn_step)
  pub tables : (result ≡ Err StepFaults.Disk → ⊥) → new.current.machine.tables ≡ old.current.machine.tables
  pub quiet : result ≡ Ok tt
      → (told : ℕ) × tells told × IsQuiet new.current (step_moment told new.current.moment)
  pub going : (result ≡ Err StepFaults.Disk → ⊥) → new.journal.ended ≡ false
  pub refused : (fault : StepFault) → result ≡ Err fault → (conf input : List ℕ) (before : List Step)
      → turn_after 0 before ≡ 2
      → IsRefusal tells conf input (before ++ added) new.current new.journal.size (Rose
      (disks.faults old.journal.disk) (disks.faults new.journal.disk)) fault

-- the number was printed, or there was no memory for its line, or the output took a front of it
abbrev pub HasAcknowledged : Output → ℕ → Result (Unit {0}) Stop → Type 0
HasAcknowledged out n (Ok done) = Prints out (accepted_line n)
HasAcknowledged out n (Err stop) = ((stop ≡ Stops.Memory) × (out.after ≡ out.before))
    ⊎ ((stop ≡ Stops.Sink) × PrintsFront out (accepted_line n))

-- the stop for a step that is refused; the last four refuse steps of lanes alone, which `submit` does not make
abbrev pub stop_of_step : StepFault → Stop
stop_of_step (StepFaults.Full size need) = Stops.Full size need
stop_of_step StepFaults.Disk = Stops.Disk
stop_of_step StepFaults.Ended = Stops.Disk
stop_of_step (StepFaults.Spent last) = Stops.Spent last
stop_of_step StepFaults.Memory = Stops.Memory
stop_of_step (StepFaults.Fenced generation) = Stops.Disk
stop_of_step (StepFaults.NoLane lane) = Stops.Disk
stop_of_step (StepFaults.BusyLanes count) = Stops.Disk
stop_of_step StepFaults.Unexpected = Stops.Disk

-- why working on an open spool stopped
pub data IsWorkStop (tells : ℕ → Type 0) (conf input : List ℕ) (added : List Step) (s : State) (size : ℕ)
    (failed : Type 0) : Stop → Type 0 where
  full : (used need : ℕ) → IsFullFor tells conf input added s size used need
      → IsWorkStop tells conf input added s size failed (Stops.Full used need)
  spent : (last : ℕ) → IsSpentFor tells conf input added s last
      → IsWorkStop tells conf input added s size failed (Stops.Spent last)
  disk : failed → IsWorkStop tells conf input added s size failed Stops.Disk
  memory : IsWorkStop tells conf input added s size failed Stops.Memory

-- the line of the item that is accepted behind each history that the spool stood for
pub record IsAcceptedLine {D C : Type 0} (disks : DiskView D) (old : Shown D C) (added : List Step) (input text
    : List ℕ) : Type 0 where
  pub number : ℕ
  pub small : number < 2 ^ 32
  pub text_is : text ≡ accepted_line number
  pub accepted : (steps : List Step) → Stands disks old steps → IsAccepted steps added input number

-- what `submit` leaves of an open spool
pub record HasWorked {D C : Type 0} (disks : DiskView D) (tells : ℕ → Type 0) (conf input : List ℕ) (out : Output)
    (old new : Shown D C) (result : Result (Unit {0}) Stop) : Type 0 where
  pub added : List Step
  pub torn_step : List Step
  pub adds : Adds disks tells conf input old new added torn_step (result ≡ Err Stops.Disk)
  pub in_turn : AreInTurn 0 (added ++ torn_step)
  pub printed : PrintsOrFails (IsWorkStop tells conf input added new.current new.journal.size (Rose
      (disks.faults old.journal.disk) (disks.faults new.journal.disk)))
      (IsAcceptedLine disks old added input) out result
  pub quiet : result ≡ Ok tt
      → (told : ℕ) × tells told × IsQuiet new.current (step_moment told new.current.moment)
  pub tables : result ≡ Ok tt → IsRecorded new.current conf
