-- What the calls of the spools of a drill leave before its first session, and behind each session.
use Rattle.std.specs.Prelude.{◌≡◌, ◌⊎◌, ◌<◌, ℕ, ◌+◌, ◌^◌, List, [], ◌∷◌, length}
use Rattle.mta_edge.specs.Held.{HeldDisk}
use Rattle.mta_records.specs.declared.step.Step.{Step}
use Rattle.mta_records.specs.declared.step.Step.TheVariants as step
use Rattle.mta_histories.specs.Due.{IsNext, IsQuiet}
use Rattle.mta_histories.specs.History.{after, after_step}
use Rattle.mta_histories.specs.Lanes.{Lanes}
use Rattle.mta_histories.specs.Lanes.{State as SpoolState}
use Rattle.mta_images.specs.Image.{StandsFor}
use Rattle.mta_spool.specs.Shown.{Shown}
use Rattle.mta_spool.specs.Stands.{IsSpent}
use Rattle.mta_spool.specs.declared.why.OpenWhy.{OpenWhy}
use Rattle.mta_spool.specs.declared.why.OpenWhy.TheVariants as Whys
use Rattle.mta_drill_answer_laws.specs.Answers.{Works}
use Rattle.mta_drill_step_laws.specs.First.{HasAccepted}
use Rattle.mta_drill_step_laws.specs.Second.{HasGot}

-- ---- a spool is opened

-- nothing but the format is set
abbrev pub begun : SpoolState
begun = after (step.Format 2 ∷ [])

-- Such a disk is opened, unless memory is wanted: it is empty, or stands for a history in the format that is set.
pub data IsOpenable (octets : List ℕ) : Type 0 where
  Is_empty : octets ≡ [] → IsOpenable octets
  Has_stood : (steps : List Step) → StandsFor octets steps → (after steps).machine.format ≡ 2
      → IsOpenable octets

-- memory was wanted, also for the disk
abbrev pub IsWant : OpenWhy → Type 0
IsWant Whys.Memory = Unit {0}
IsWant Whys.Disk = Unit {0}
IsWant _ = ⊥

-- ---- a step

-- two numbers of items are left
abbrev pub HasRoom : SpoolState → Type 0
HasRoom s = length s.machine.items + 2 < 2 ^ 32

-- the spool works on, and made this step where numbers are left
pub record HasMade (made : Step) (old new : Shown HeldDisk (List ℕ)) : Type 0 where
  pub works : Works new
  pub current : HasRoom old.current → new.current ≡ after_step old.current made

-- ---- what is due

-- due steps, one behind the other, each made at the last moment
pub data Settles (s : SpoolState) : SpoolState → Type 0 where
  Not_yet : Settles s s
  One_more : (t : SpoolState) (due : Step) → Settles s t → IsNext t t.moment due → Settles s (after_step t due)

-- so it came to this
pub record HasTurned (old new : Shown HeldDisk (List ℕ)) : Type 0 where
  pub works : Works new
  pub settles : Settles old.current new.current

-- nothing more is due, or too few numbers are left for what is
abbrev pub HasRest : SpoolState → Type 0
HasRest s = IsQuiet s s.moment ⊎ ((due : Step) × IsNext s s.moment due × IsSpent s due)

pub record HasSettled (old new : Shown HeldDisk (List ℕ)) : Type 0 where
  pub turned : HasTurned old new
  pub rest : HasRest new.current

-- ---- before the first session

abbrev pub no_lanes : Lanes
no_lanes = record { count = 0; open_lanes = [] }

-- the first agent has taken so many messages behind this one
pub record HasTaken (before count : ℕ) (s : Shown HeldDisk (List ℕ)) : Type 0 where
  pub works : Works s
  pub accepted : HasAccepted before count 0 s.current.machine
  pub moment : s.current.moment ≡ 0
  pub lanes : s.current.lanes ≡ no_lanes

-- the second agent has its tables
pub record HasNothing (before : ℕ) (s : Shown HeldDisk (List ℕ)) : Type 0 where
  pub works : Works s
  pub got : HasGot before 0 0 s.current.machine
  pub moment : s.current.moment ≡ 0
  pub lanes : s.current.lanes ≡ no_lanes
