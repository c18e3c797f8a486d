-- That an audit changes no history. An image is the octets that a crash leaves.
use Rattle.std.specs.Prelude.{◌≡◌, ◌⊎◌, ℕ, ◌≤◌, List, Some}
use Rattle.mta_edge.specs.Views.{DiskView, StaysTold, WhereTold}
use Rattle.mta_journal.specs.Opening.{IsSynced, KeepsFilled}
use Rattle.mta_records.specs.declared.step.Step.{Step}
use Rattle.mta_images.specs.Image.{StandsFor}

-- The first sync of the call was over when the disk was `first`, and since then a crash leaves this history.
pub record KeepsSince {D : Type 0} (model : DiskView D) (steps : List Step) (old new : D) : Type 0 where
  pub first : D
  pub sync : IsSynced model old first
  pub until : model.moment first ≤ model.moment new
  pub same : (g : List ℕ) → model.left_since new (model.moment first) g → StandsFor g steps

-- What a crash leaves of a disk that stood for a history.
pub data CrashKeeps {D : Type 0} (model : DiskView D) (steps : List Step) (old new : D) : Type 0 where
  -- no sync has succeeded: it reads as before, and a crash at any moment of the call leaves what one before
  -- might have left
  before_sync : model.content new ≡ model.content old
      → ((g : List ℕ) → model.left_since new (model.moment old) g → model.may_leave old g)
      → CrashKeeps model steps old new
  -- since its first sync a crash leaves the same history
  since_sync : KeepsSince model steps old new → CrashKeeps model steps old new

-- What an audit leaves of a disk.
pub record IsKept {D : Type 0} (model : DiskView D) (old new : D) : Type 0 where
  pub later : model.faults old ≤ model.faults new
  -- it still tells what it holds, and one that has records holds the same
  pub told : StaysTold model old new
  pub filled : KeepsFilled model old new
  -- one that stood for a history reads as one that stands for the same
  pub stands : (f g : List ℕ) (steps : List Step) → model.content old ≡ Some f → model.content new ≡ Some g
      → StandsFor f steps → StandsFor g steps
  -- and so does what a crash leaves, since the first sync of the call; before it, what one before the call
  -- might have left
  pub crash : (f : List ℕ) (steps : List Step) → model.content old ≡ Some f → StandsFor f steps
      → CrashKeeps model steps old new
  pub before : (f : List ℕ) (steps : List Step) → model.content old ≡ Some f → StandsFor f steps
      → (g : List ℕ) → model.left_since new (model.moment old) g → model.may_leave old g ⊎ StandsFor g steps

-- The disk was opened: it stood for this history, and a crash leaves it since the call's first sync.
pub record IsRead {D : Type 0} (model : DiskView D) (steps : List Step) (old new : D) : Type 0 where
  pub stands : WhereTold model old (λ f. StandsFor f steps)
  pub since : WhereTold model old (λ f. KeepsSince model steps old new)
