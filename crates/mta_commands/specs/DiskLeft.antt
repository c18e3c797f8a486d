-- What becomes of the disk of a run.
use Rattle.std.specs.Prelude.{◌≡◌, ◌≢◌, ◌⊎◌, ℕ, ◌≤◌, List, [], ◌++◌, length, Some}
use Rattle.mta_edge.specs.Views.{DiskView, StaysTold}
use Rattle.mta_edge.specs.Causes.{Rose}
use Rattle.mta_records.specs.declared.step.Step.{Step}
use Rattle.mta_images.specs.Image.{StandsFor}
use Rattle.mta_images.specs.Opened.{IsLeftByOpening, Opens}
use Rattle.mta_commands.specs.Images.{Synced, IsSafe}
use Rattle.mta_spool.specs.Crashing.{IsLeftWith}

-- The disk was not called; or opening refused it; or opening answered that it is a spool.
pub data Opening : Type 0 where
  uncalled : Opening
  refused : Opening
  opened : Opening

-- it reads as before, and a crash at any moment of the call leaves what one before might have left, or the same octets
pub record IsAsItWas {D : Type 0} (disks : DiskView D) (f : List ℕ) (old new : D) : Type 0 where
  pub reads : disks.content new ≡ Some f
  pub images : (g : List ℕ) → disks.left_since new (disks.moment old) g → disks.may_leave old g ⊎ (g ≡ f)

-- What became of a disk behind whose history, as opening goes on with it, these steps were added. `torn_step` is the
-- step in which it failed, if it did.
pub record DiskLeft {D : Type 0} (disks : DiskView D) (old new : D) (opening : Opening) (added torn_step
    : List Step) : Type 0 where
  -- one that was not called is the same, and only to one that was opened steps are added
  pub untouched : opening ≡ uncalled → new ≡ old
  pub unopened : opening ≢ opened → added ++ torn_step ≡ []
  -- where its count of faults did not rise no step failed, and at most one did
  pub later : disks.faults old ≤ disks.faults new
  pub one : length torn_step ≤ 1
  pub calm : (Rose (disks.faults old) (disks.faults new) → ⊥) → torn_step ≡ []
  -- it still tells what it holds
  pub told : StaysTold disks old new
  -- one that was opened reads as what opening goes on with and these steps; another as what it stood for or what
  -- opening may leave; and so does what a crash leaves
  pub stands : opening ≡ opened → (f g : List ℕ) (found steps : List Step) → disks.content old ≡ Some f
      → disks.content new ≡ Some g → Opens f found steps → IsLeftWith steps added torn_step g
  pub left : opening ≢ opened → (f g : List ℕ) (found : List Step) → disks.content old ≡ Some f
      → disks.content new ≡ Some g → StandsFor f found → IsLeftByOpening f g
  pub safe : (f : List ℕ) (found steps : List Step) → disks.content old ≡ Some f → Opens f found steps
      → IsSafe disks f steps added torn_step old new
  -- one that was opened stood for a history, and opening synced it
  pub stood : opening ≡ opened → (f : List ℕ) → disks.content old ≡ Some f
      → (found : List Step) × StandsFor f found
  pub synced : opening ≡ opened → (f : List ℕ) (found steps : List Step) → disks.content old ≡ Some f
      → Opens f found steps → Synced disks f steps added torn_step old new
  -- one that is no spool is as it was, also after a crash
  pub no_spool : (f : List ℕ) → disks.content old ≡ Some f → ((steps : List Step) → StandsFor f steps → ⊥)
      → IsAsItWas disks f old new
