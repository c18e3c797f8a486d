-- What a crash leaves of the disk of a run. An image is the octets that a crash leaves.
use Rattle.std.specs.Prelude.{◌≡◌, ◌⊎◌, ℕ, ◌≤◌, List, [], ◌++◌}
use Rattle.mta_edge.specs.Views.{DiskView}
use Rattle.mta_journal.specs.Opening.{IsSynced}
use Rattle.mta_records.specs.declared.step.Step.{Step}
use Rattle.mta_images.specs.Image.{StandsFor}
use Rattle.mta_images.specs.Opened.{IsLeftByOpening}
use Rattle.mta_spool.specs.Crashing.{IsLeftWith, Reached}

-- no sync has succeeded: nothing was added, the disk reads as before, and a crash at any moment of the call leaves
-- what one before it might have left
pub record Unsynced {D : Type 0} (disks : DiskView D) (tried : List Step) (old new : D) : Type 0 where
  pub none : tried ≡ []
  pub reads : disks.content new ≡ disks.content old
  pub images : (g : List ℕ) → disks.left_since new (disks.moment old) g → disks.may_leave old g

-- Opening's first sync has succeeded, and was over when the disk was `first`: until then a crash left what one before
-- the call might have left, and then nothing was pending. Opening did not answer Ok: nothing was added, and since then
-- a crash leaves a history that opening these octets may leave.
pub record Stopped {D : Type 0} (disks : DiskView D) (f : List ℕ) (tried : List Step) (old new : D) : Type 0 where
  pub none : tried ≡ []
  pub first : D
  pub sync : IsSynced disks old first
  pub until : disks.moment first ≤ disks.moment new
  pub images : (g : List ℕ) → disks.left_since new (disks.moment first) g → IsLeftByOpening f g

-- Opening's first sync has succeeded, and was over when the disk was `first`; opening answered Ok when it was `over`.
-- Between the two a crash left a history that opening these octets may leave. Since then it leaves the one with which
-- opening goes on, with a beginning of the added steps, and one now leaves it with all that were made.
pub record Synced {D : Type 0} (disks : DiskView D) (f : List ℕ) (steps added torn_step : List Step) (old new : D)
    : Type 0 where
  pub first : D
  pub sync : IsSynced disks old first
  pub over : D
  pub later : disks.moment first ≤ disks.moment over
  pub until : disks.moment over ≤ disks.moment new
  pub opening : (g : List ℕ) → disks.left_since over (disks.moment first) g → IsLeftByOpening f g
  pub opened : (g : List ℕ) → disks.may_leave over g → StandsFor g steps
  pub all : (g : List ℕ) → disks.left_since new (disks.moment first) g
      → IsLeftByOpening f g ⊎ Reached steps (added ++ torn_step) g
  pub images : (g : List ℕ) → disks.left_since new (disks.moment over) g → Reached steps (added ++ torn_step) g
  pub now : (g : List ℕ) → disks.may_leave new g → IsLeftWith steps added torn_step g

-- what a crash leaves of the disk of a run, which was handed in with these octets, and from which opening goes on with
-- these steps
abbrev pub IsSafe : {D : Type 0} → DiskView D → (f : List ℕ) → (steps added torn_step : List Step)
    → (old new : D)
    → Type 0
IsSafe disks f steps added torn_step old new = Unsynced disks (added ++ torn_step) old new
    ⊎ Stopped disks f (added ++ torn_step) old new
    ⊎ Synced disks f steps added torn_step old new

-- a crash at any moment of the call leaves what one before it might have left, or a history that opening these octets
-- may leave, or the one with which opening goes on with a beginning of these steps
abbrev pub IsSafeBefore : {D : Type 0} → DiskView D → (f : List ℕ) → (steps tried : List Step) → (old new : D)
    → Type 0
IsSafeBefore disks f steps tried old new =
    (g : List ℕ) → disks.left_since new (disks.moment old) g
    → disks.may_leave old g ⊎ IsLeftByOpening f g ⊎ Reached steps tried g
