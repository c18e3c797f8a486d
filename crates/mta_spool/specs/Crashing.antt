-- What a crash leaves of a spool to which steps are added. An image is the octets that a crash leaves.
use Rattle.std.specs.Prelude.{◌⊎◌, ℕ, List, ◌++◌, take}
use Rattle.mta_edge.specs.Views.{DiskView}
use Rattle.mta_edge.specs.Crashes.{AtAnyMoment}
use Rattle.mta_records.specs.declared.step.Step.{Step}
use Rattle.mta_images.specs.Image.{StandsFor}

-- the image stands for the history with a beginning of these steps
abbrev pub Reached : List Step → List Step → List ℕ → Type 0
Reached steps tried image = (n : ℕ) × StandsFor image (steps ++ take n tried)

-- the image stands for the history with the steps that were made, or with those and the one in which the disk failed
abbrev pub IsLeftWith : List Step → List Step → List Step → List ℕ → Type 0
IsLeftWith steps added torn_step image = StandsFor image (steps ++ added)
    ⊎ StandsFor image (steps ++ (added ++ torn_step))

-- A crash at any moment of a call leaves the history with a beginning of its steps, and one now with all
-- that were made.
pub record Leaves {D : Type 0} (disks : DiskView D) (steps added torn_step : List Step) (old new : D) : Type 0 where
  pub during : AtAnyMoment disks (Reached steps (added ++ torn_step)) old new
  pub now : (g : List ℕ) → disks.may_leave new g → IsLeftWith steps added torn_step g
