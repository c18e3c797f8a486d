-- What an agent of a drill answers its session where there is memory for all.
use Rattle.std.specs.Prelude.{◌≡◌, ℕ, List, Option, None, Some}
use Rattle.mta_edge.specs.Held.{HeldDisk}
use Rattle.mta_edge.specs.Images.{memory_disk}
use Rattle.mta_edge.specs.Moments.{may_tell, memory_clock}
use Rattle.mta_edge.specs.Views.{DiskView}
use Rattle.mta_records.specs.declared.step.Step.{Step}
use Rattle.mta_session.specs.declared.ask.Ask.{Ask}
use Rattle.mta_session.specs.State.{State}
use Rattle.mta_session.specs.declared.ask.Reply.{Reply}
use Rattle.mta_session.specs.declared.event.Action.{Action}
use Rattle.mta_session_laws.specs.Runs.{Turn}
use Rattle.mta_spool.specs.Shown.{Shown}
use Rattle.mta_spool.specs.Stands.{Stands}
use Rattle.mta_stations.specs.declared.end.Halt.{Halt}
use Rattle.mta_stations.specs.declared.end.Halt.TheVariants as halts
use Rattle.mta_worker.specs.Answers.{Answered}
use Rattle.mta_worker.specs.Halting.{halt_after}
use Rattle.mta_worker.specs.Turns.{Looks, noted_in}
use Rattle.mta_drill_stage_laws.specs.Starting.{Look}
use Rattle.mta_drill_stage_laws.specs.Starting as stage
use Rattle.mta_drill_stage_laws.specs.World.{Asked}

-- ---- want of memory

-- A disk in memory fails for want of it alone, and has no room for a journal that passes its limit.
abbrev pub WantsMemory : Halt → Type 0
WantsMemory halts.Memory = Unit {0}
WantsMemory halts.Disk = Unit {0}
WantsMemory (halts.Full size need) = Unit {0}
WantsMemory _ = ⊥

abbrev pub IsShort : Option Halt → Type 0
IsShort None = ⊥
IsShort (Some halt) = WantsMemory halt

-- ---- an agent

-- its clock tells 0 alone
abbrev pub StandsStill : List ℕ → Type 0
StandsStill clock = (m : ℕ) → may_tell clock m → m ≡ 0

-- the spool stands for a history, so that it has not ended
abbrev pub HasHistory : {D C : Type 0} → DiskView D → Shown D C → Type 0
HasHistory disks s = (steps : List Step) × Stands disks s steps

-- its spool stands for a history, and its clock stands still
pub record Works (s : Shown HeldDisk (List ℕ)) : Type 0 where
  pub history : HasHistory memory_disk s
  pub clock : StandsStill s.clock

-- A question is answered as a spool answers it, and the spool goes on.
abbrev pub QuestionsAreAsked : Type 0
QuestionsAreAsked =
    (q : Ask) (old : Shown HeldDisk (List ℕ)) (x : Reply) (new : Shown HeldDisk (List ℕ)) → Works old
    → Answered memory_disk memory_clock q old x new → (IsShort (halt_after x) → ⊥)
    → Asked q old.current x new.current × HasHistory memory_disk new

-- So are looks at a lane before a session.
abbrev pub LooksAreAsked : Type 0
LooksAreAsked =
    (s : Shown HeldDisk (List ℕ)) → Works s
    → (t : State) (a : Action) (turns : List Turn) (u : State) (b : Action)
    → Looks memory_disk memory_clock s t a turns u b → (IsShort (noted_in None turns) → ⊥)
    → ((looks : List Look) × stage.Looks s.current t a looks u b) × (noted_in None turns ≡ None)
