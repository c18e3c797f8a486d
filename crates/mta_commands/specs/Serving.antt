-- What `serve` makes of its own over an open spool, before the workers and behind them.
use Rattle.std.specs.Prelude.{◌≡◌, ◌⊎◌, ℕ, ◌+◌, ◌<◌, List, [], ◌∷◌, ◌++◌, length, true}
use Rattle.std.specs.Prelude.{false, Result, Ok, Err}
use Rattle.mta_edge.specs.Causes.{Rose}
use Rattle.mta_edge.specs.Views.{DiskView}
use Rattle.mta_journal.specs.Appending.{journal_limit}
use Rattle.mta_records.specs.declared.step.Step.{Step}
use Rattle.mta_records.specs.declared.step.Step.TheVariants.{Tables}
use Rattle.mta_records.specs.declared.fault.StepFault.{StepFault}
use Rattle.mta_records.specs.declared.fault.StepFault.TheVariants as StepFaults
use Rattle.mta_histories.specs.Lanes.{State}
use Rattle.mta_histories.specs.Due.{IsNext}
use Rattle.mta_spool.specs.Shown.{Shown}
use Rattle.mta_spool.specs.Stands.{need_of, IsSpent}
use Rattle.mta_spool.specs.Turning.{IsRecorded}
use Rattle.mta_stations.specs.declared.end.Halt.{Halt}
use Rattle.mta_stations.specs.declared.end.Halt.TheVariants as Halts
use Rattle.mta_stations.specs.declared.end.WorkerEnd.{WorkerEnd}
use Rattle.mta_stations.specs.Deciding.{Decides, halts_of, IsUndecided}
use Rattle.mta_stations.specs.Lines.{station_lines}
use Rattle.mta_spool.specs.Moments.{IsTimed}
use Rattle.mta_commands.specs.declared.stop.Stop.{Stop}
use Rattle.mta_commands.specs.declared.stop.Stop.TheVariants as Stops
use Rattle.mta_output.specs.Output.{Output, Prints, PrintsFront}
use Rattle.mta_commands.specs.Output.{PrintsOrFails}
use Rattle.mta_commands.specs.Submit.{Adds, AreInTurn, HasSettled, stop_of_step}

-- ---- steps of its own

-- The step that it makes next in this state: the tables, where they are not those recorded last; or what is due for the
-- lowest item and recipient, at a moment that the clock tells.
pub data IsNextOwn (tells : ℕ → Type 0) (conf : List ℕ) (s : State) : Step → Type 0 where
  records : (IsRecorded s conf → ⊥) → IsNextOwn tells conf s (Tables conf)
  settles : (moment : ℕ) (step : Step) → IsTimed tells s.moment moment → IsNext s moment step
      → IsNextOwn tells conf s step

-- That step was refused: in a journal of this size its record would pass the limit.
pub record IsOwnFull (tells : ℕ → Type 0) (conf : List ℕ) (s : State) (journal_size size need : ℕ)
    : Type 0 where
  pub step : Step
  pub next : IsNextOwn tells conf s step
  pub size_is : size ≡ journal_size
  pub need_is : need ≡ need_of step
  pub over : journal_limit < size + need

-- It was refused: fewer numbers than it needs are left for items.
pub record IsOwnSpent (tells : ℕ → Type 0) (conf : List ℕ) (s : State) (last : ℕ) : Type 0 where
  pub step : Step
  pub next : IsNextOwn tells conf s step
  pub last_is : last ≡ length s.machine.items
  pub over : IsSpent s step

-- why it was refused, as the state and the size of the journal show it
abbrev pub IsOwnRefusal : (ℕ → Type 0) → (conf : List ℕ) → State → (size : ℕ) → (failed : Type 0)
    → StepFault → Type 0
IsOwnRefusal tells conf s size failed (StepFaults.Full used need) = IsOwnFull tells conf s size used need
IsOwnRefusal tells conf s size failed (StepFaults.Spent last) = IsOwnSpent tells conf s last
IsOwnRefusal tells conf s size failed StepFaults.Disk = failed
IsOwnRefusal tells conf s size failed StepFaults.Ended = ⊥
IsOwnRefusal tells conf s size failed StepFaults.Memory = Unit {0}
IsOwnRefusal tells conf s size failed (StepFaults.Fenced generation) = ⊥
IsOwnRefusal tells conf s size failed (StepFaults.NoLane lane) = ⊥
IsOwnRefusal tells conf s size failed (StepFaults.BusyLanes count) = ⊥
IsOwnRefusal tells conf s size failed StepFaults.Unexpected = ⊥

-- the tables come first, if at all, and behind them what is due
abbrev pub RecordsFirst : (conf : List ℕ) → List Step → Type 0
RecordsFirst conf steps =
    AreInTurn 2 steps ⊎ ((rest : List Step) × (steps ≡ Tables conf ∷ rest) × AreInTurn 2 rest)

-- ---- before the workers

-- The tables were recorded, where they changed, and all was done that was due; or a step of these was refused.
pub record HasBegun {D C : Type 0} (disks : DiskView D) (tells : ℕ → Type 0) (conf : List ℕ) (old new : Shown D C)
    (result : Result (Unit {0}) StepFault) : Type 0 where
  pub added : List Step
  pub torn_step : List Step
  pub adds : Adds disks tells conf [] old new added torn_step (result ≡ Err StepFaults.Disk)
  pub first : RecordsFirst conf (added ++ torn_step)
  pub recorded : result ≡ Ok tt → IsRecorded new.current conf
  pub refused : (fault : StepFault) → result ≡ Err fault
      → IsOwnRefusal tells conf new.current new.journal.size
      (Rose (disks.faults old.journal.disk) (disks.faults new.journal.disk)) fault
  pub going : result ≡ Ok tt → new.journal.ended ≡ false

-- ---- behind them

-- What had come due was done, or a step of it was refused; or the disk had failed before.
pub data SettlesBehind {D C : Type 0} (disks : DiskView D) (tells : ℕ → Type 0) (old new : Shown D C)
    : Result (Unit {0}) StepFault → Type 0 where
  Had_ended : old.journal.ended ≡ true → new ≡ old → SettlesBehind disks tells old new (Err StepFaults.Ended)
  Settled : (result : Result (Unit {0}) StepFault) → old.journal.ended ≡ false
      → HasSettled disks tells old new result → SettlesBehind disks tells old new result

-- a line a station was printed, or there was no memory for them, or the output took a front of them
abbrev pub HasToldStations : List WorkerEnd → Output → Result (Unit {0}) Stop → Type 0
HasToldStations ends out (Ok done) = Prints out (station_lines ends)
HasToldStations ends out (Err stop) = ((stop ≡ Stops.Memory) × (out.after ≡ out.before))
    ⊎ ((stop ≡ Stops.Sink) × PrintsFront out (station_lines ends))

-- The stop for the end of a worker that decides. Where it decides the last turns of the run went well, so the disk has
-- not failed, and the tables name each peer that is called: an end that says otherwise has no cause, and is told as
-- want of memory. The last three decide nothing.
abbrev pub stop_of_halt : Halt → Stop
stop_of_halt Halts.Disk = Stops.Memory
stop_of_halt (Halts.Full size need) = Stops.Full size need
stop_of_halt (Halts.Spent last) = Stops.Spent last
stop_of_halt Halts.NoPeer = Stops.Memory
stop_of_halt Halts.Memory = Stops.Memory
stop_of_halt Halts.Limit = Stops.Memory
stop_of_halt Halts.StationEnded = Stops.Memory
stop_of_halt Halts.StationFailed = Stops.Memory

-- Why a run ends whose last turns came to this, and whose workers came to these ends: for its own step that was
-- refused, or for the end of a worker that decides.
pub data IsOutcome (settled : Result (Unit {0}) StepFault) (ends : List WorkerEnd) : Result (Unit {0}) Stop
    → Type 0 where
  Well : settled ≡ Ok tt → IsUndecided (halts_of ends) → IsOutcome settled ends (Ok tt)
  Refused : (fault : StepFault) → settled ≡ Err fault → IsOutcome settled ends (Err (stop_of_step fault))
  Decided : (halt : Halt) → settled ≡ Ok tt → Decides (halts_of ends) halt → IsOutcome settled ends
      (Err (stop_of_halt halt))

-- why a run stops behind its workers
abbrev pub IsFinishStop : Result (Unit {0}) StepFault → List WorkerEnd → Stop → Type 0
IsFinishStop settled ends stop = (stop ≡ Stops.Memory) ⊎ IsOutcome settled ends (Err stop)

-- what is left behind the workers: what had come due was done, and the lines were printed
pub record HasFinished {D C : Type 0} (disks : DiskView D) (tells : ℕ → Type 0) (ends : List WorkerEnd)
    (out : Output) (old new : Shown D C) (result : Result (Unit {0}) Stop) : Type 0 where
  pub settled : Result (Unit {0}) StepFault
  pub behind : SettlesBehind disks tells old new settled
  pub printed : PrintsOrFails (IsFinishStop settled ends) (λ text. text ≡ station_lines ends) out result
  pub well : result ≡ Ok tt → (settled ≡ Ok tt) × IsUndecided (halts_of ends)
