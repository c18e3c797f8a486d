-- What opening the disks of both sides leaves.
use Rattle.std.specs.Prelude.{◌≡◌, ◌⊎◌, ℕ, ◌≤◌, List, [], map, Some}
use Rattle.mta_edge.specs.Causes.{Rose}
use Rattle.mta_edge.specs.Crashes.{CrashLeaves}
use Rattle.mta_edge.specs.Outside.{ContentGoes}
use Rattle.mta_edge.specs.Views.{DiskView, StaysTold, WhereTold}
use Rattle.mta_journal.specs.Bodies.{AreWithin, StandsFor, longest_first}
use Rattle.mta_journal.specs.Faults.{IsNoJournalAt}
use Rattle.mta_journal.specs.Opening.{BeforeOrSame, IsLeft as IsLeftOfJournal, IsRefused, IsSameFrom, IsSynced}
use Rattle.mta_journal.specs.Opening.{KeepsFilled}
use Rattle.mta_journal.specs.Shown.{Holds, IsPlain, Shown}
use Rattle.mta_records.specs.Body.{body_of}
use Rattle.mta_records.specs.declared.step.Step.{Step}
use Rattle.mta_images.specs.Image.{NoSpoolAt, StandsFor as StandsForHistory}
use Rattle.mta_images.specs.Opened.{IsFullForFormat, Opens}
use Rattle.mta_spool.specs.GoingOn.{GoesOnSafely, IsStopped}
use Rattle.mta_spool.specs.Opening.{StaysOther}
use Rattle.mta_follow_run.specs.Copies.{CopiesSince, IsCopy}
use Rattle.mta_follow_run.specs.declared.stop.Stop.{Stop}
use Rattle.mta_follow_run.specs.declared.stop.Stop.TheVariants as Stops

-- ---- a journal's disk

-- It was opened as a journal of these bodies.
pub record IsOpenedFrom {D : Type 0} (disks : DiskView D) (old : D) (journal : Shown D) (bodies : List (List ℕ))
    : Type 0 where
  pub stands : WhereTold disks old (λ f. StandsFor f bodies)
  pub holds : Holds disks journal bodies
  pub each : AreWithin longest_first bodies
  pub later : disks.faults old ≤ disks.faults journal.disk
  pub told : StaysTold disks old journal.disk
  pub filled : KeepsFilled disks old journal.disk
  pub images : CrashLeaves disks (BeforeOrSame disks old) old journal.disk
  pub first : D
  pub sync : IsSynced disks old first
  pub since : WhereTold disks old (λ f. IsSameFrom disks f old journal.disk (disks.moment first))

-- Why it was refused as one.
abbrev pub HasJournalCause : {D : Type 0} → DiskView D → D → D → Stop → Type 0
HasJournalCause disks old new (Stops.NotSpool at) = ContentGoes disks (IsRefused at) old new
HasJournalCause disks old new Stops.Disk = Rose (disks.faults old) (disks.faults new)
HasJournalCause disks old new Stops.Memory = Unit {0}
HasJournalCause disks old new _ = ⊥

pub record IsRefusedFrom {D : Type 0} (disks : DiskView D) (old new : D) (stop : Stop) : Type 0 where
  pub later : disks.faults old ≤ disks.faults new
  pub told : StaysTold disks old new
  pub cause : HasJournalCause disks old new stop
  pub filled : KeepsFilled disks old new
  pub left : WhereTold disks old (λ f. IsLeftOfJournal disks f old new)
  pub images : CrashLeaves disks (BeforeOrSame disks old) old new

-- ---- the standby's disk

-- a crash at any moment leaves what one before might have left, or a copy of what was kept
abbrev pub StaysCopy : {D : Type 0} → DiskView D → List ℕ → List (List ℕ) → D → D → Type 0
StaysCopy disks f kept old new =
    (g : List ℕ) → disks.left_since new (disks.moment old) g → disks.may_leave old g ⊎ IsCopy f kept [] g

-- It is a journal of these bodies, which may be appended to. Since the first sync of the call, over which the disk was
-- `first`, a crash leaves them.
pub record IsStandby {D : Type 0} (disks : DiskView D) (old : D) (journal : Shown D) (kept : List (List ℕ)) : Type 0
  where
    pub stands : WhereTold disks old (λ f. StandsFor f kept)
    pub holds : Holds disks journal kept
    pub plain : IsPlain journal.first
    pub later : disks.faults old ≤ disks.faults journal.disk
    pub told : StaysTold disks old journal.disk
    pub first : D
    pub sync : IsSynced disks old first
    pub since : WhereTold disks old (λ f. CopiesSince disks f kept [] first journal.disk)
    pub before : WhereTold disks old (λ f. StaysCopy disks f kept old journal.disk)

-- What a crash leaves of a disk on which no standby was opened: where the first sync failed, what one before might have
-- left, and since that sync copies.
pub data IsLeft {D : Type 0} (disks : DiskView D) (f : List ℕ) (kept : List (List ℕ)) (old new : D) : Type 0 where
  left_unsynced : disks.content new ≡ disks.content old
      → ((g : List ℕ) → disks.left_since new (disks.moment old) g → disks.may_leave old g)
      → IsLeft disks f kept old new
  left_synced : (first : D) → IsSynced disks old first → CopiesSince disks f kept [] first new
      → IsLeft disks f kept old new

-- why it is none: it is no journal from there on, or the disk failed
abbrev pub HasStandbyCause : {D : Type 0} → DiskView D → D → D → Stop → Type 0
HasStandbyCause disks old new (Stops.NotSpool at) = WhereTold disks old (λ f. IsNoJournalAt f at)
HasStandbyCause disks old new Stops.Disk = Rose (disks.faults old) (disks.faults new)
HasStandbyCause disks old new Stops.Memory = Unit {0}
HasStandbyCause disks old new _ = ⊥

pub record IsNoStandby {D : Type 0} (disks : DiskView D) (old new : D) (stop : Stop) : Type 0 where
  pub later : disks.faults old ≤ disks.faults new
  pub told : StaysTold disks old new
  pub cause : HasStandbyCause disks old new stop
  -- one that is a journal keeps its bodies, and another is as it was
  pub left : (f : List ℕ) (kept : List (List ℕ)) → disks.content old ≡ Some f → StandsFor f kept
      → IsLeft disks f kept old new
  pub before : (f : List ℕ) (kept : List (List ℕ)) → disks.content old ≡ Some f → StandsFor f kept
      → StaysCopy disks f kept old new
  pub other : (f : List ℕ) → disks.content old ≡ Some f
      → ((kept : List (List ℕ)) → StandsFor f kept → ⊥)
      → disks.content new ≡ Some f

-- ---- the spool's disk

-- What a spool that is opened leaves of its disk: as the agent's opening leaves it.
pub record SpoolLeft {D : Type 0} (disks : DiskView D) (old new : D) : Type 0 where
  pub later : disks.faults old ≤ disks.faults new
  pub told : StaysTold disks old new
  pub other : StaysOther disks old new
  -- a crash leaves what one before might have left, or what opening may leave; since its first sync only that
  pub images : GoesOnSafely disks old new
  pub left : WhereTold disks old (λ f. IsStopped disks f old new)

-- It holds these records: those with which a spool goes on that is opened on it.
pub record IsSpool {D : Type 0} (disks : DiskView D) (old new : D) (bodies : List (List ℕ)) : Type 0 where
  pub left : SpoolLeft disks old new
  pub each : AreWithin longest_first bodies
  pub opens : WhereTold disks old
      (λ f. (found : List Step) × (steps : List Step) × Opens f found steps × (bodies ≡ map body_of steps)
      × WhereTold disks new (λ g. StandsForHistory g steps))

abbrev pub HasSpoolCause : {D : Type 0} → DiskView D → D → D → Stop → Type 0
HasSpoolCause disks old new (Stops.NotSpool at) = WhereTold disks old (λ f. NoSpoolAt f at)
HasSpoolCause disks old new (Stops.Full size need) = WhereTold disks old (λ f. IsFullForFormat f size need)
HasSpoolCause disks old new Stops.Disk = Rose (disks.faults old) (disks.faults new)
HasSpoolCause disks old new Stops.Memory = Unit {0}
HasSpoolCause disks old new _ = ⊥

pub record IsNoSpool {D : Type 0} (disks : DiskView D) (old new : D) (stop : Stop) : Type 0 where
  pub left : SpoolLeft disks old new
  pub cause : HasSpoolCause disks old new stop
