-- What every step keeps of a state that may be recorded in a snapshot.
use Rattle.std.specs.Prelude.{◌≡◌, ℕ, ◌≤◌, List, [], ◌∷◌, length, Some}
use Rattle.std.specs.List.{AllByRecursion}
use Rattle.mta_apdu.specs.Apdus.{ApduValue}
use Rattle.mta_apdu.specs.Laws.{IsWholeApdu, KeepsApdu}
use Rattle.mta_machine.specs.Items.{ItemValue, Machine, numbered}
use Rattle.mta_machine.specs.Machine.{MachineStep, set_tables, set_format, accept, discharge, IsRun, machine_run}
use Rattle.mta_machine.specs.Machine.{machine_after, made_for, last_tables}
use Rattle.mta_records.specs.declared.step.Step.{Step}
use Rattle.mta_histories.specs.Lanes.{State}
use Rattle.mta_histories.specs.Sound.{IsSoundItem, IsSound}
use Rattle.mta_histories.specs.History.{machine_steps, after_step, IsPossible}
use Rattle.mta_histories.specs.Kept.{IsKept}

-- an APDU with all parts in their ranges, and with what it keeps unread in the level of its place: so its octets are
-- read again
abbrev pub IsWritten : ApduValue → Type 0
IsWritten v = IsWholeApdu v × KeepsApdu v

-- what a step makes is so
abbrev pub MakesWritten : Machine → MachineStep → Type 0
MakesWritten m (set_tables text) = Unit {0}
MakesWritten m set_format = Unit {0}
MakesWritten m (accept octets origin moment) = Unit {0}
MakesWritten m (discharge i rs how moment) =
    (item : ItemValue) → numbered m.items i ≡ Some item
    → AllByRecursion IsWritten (made_for m item (numbered m.tables (last_tables m)) rs how moment)

abbrev pub MakeWritten : Machine → List MachineStep → Type 0
MakeWritten m [] = Unit {0}
MakeWritten m (step ∷ steps) = MakesWritten m step × MakeWritten (machine_after m step) steps

-- the moment of a step is this one
abbrev pub IsNow : ℕ → MachineStep → Type 0
IsNow n (set_tables text) = Unit {0}
IsNow n set_format = Unit {0}
IsNow n (accept octets origin moment) = moment ≡ n
IsNow n (discharge i rs how moment) = moment ≡ n

abbrev pub AreNow : ℕ → List MachineStep → Type 0
AreNow n steps = AllByRecursion (IsNow n) steps

-- items stay sound over the steps of the machine that one step of the spool is
abbrev pub ItemsStaySound : Type 0
ItemsStaySound =
    (m : Machine) (steps : List MachineStep) (before now : ℕ) → before ≤ now
    → IsRun m steps → AreNow now steps → MakeWritten m steps → AllByRecursion (IsSoundItem before) m.items
    → AllByRecursion (IsSoundItem now) (machine_run m steps).items

-- every step keeps soundness, where what it makes is written so
abbrev pub SoundStays : Type 0
SoundStays =
    (s : State) (step : Step) → IsKept s → IsSound s → IsPossible s step
    → MakeWritten s.machine (machine_steps s step) → IsSound (after_step s step)
