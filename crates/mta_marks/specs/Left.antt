-- What becomes of a disk of marks. An image is the octets that a crash leaves.
use Rattle.std.specs.Prelude.{◌≡◌, ◌⊎◌, ◌≤◌, ℕ, List, [], ◌++◌, length, Some}
use Rattle.mta_edge.specs.Causes.{Rose}
use Rattle.mta_edge.specs.Views.{DiskView, StaysTold}
use Rattle.mta_journal.specs.Opening.{IsSynced}
use Rattle.mta_marks.specs.declared.mark.Mark.{Mark}
use Rattle.mta_marks.specs.Image.{StandsFor}

-- the image stands for the marks before with those that were added, or with those and the one in which the disk failed
abbrev pub IsLeftWith : List Mark → List Mark → List Mark → List ℕ → Type 0
IsLeftWith marks added torn_mark image =
    StandsFor image (marks ++ added) ⊎ StandsFor image (marks ++ (added ++ torn_mark))

-- the image stands for the marks before, or for those and these
abbrev pub IsWithOrWithout : List Mark → List Mark → List ℕ → Type 0
IsWithOrWithout marks tried image = StandsFor image marks ⊎ StandsFor image (marks ++ tried)

-- no sync has succeeded: nothing was added, the disk reads as before, and a crash at any moment of the call leaves what
-- one before it might have left
pub record Unsynced {E : Type 0} (disks : DiskView E) (tried : List Mark) (old new : E) : Type 0 where
  pub none : tried ≡ []
  pub reads : disks.content new ≡ disks.content old
  pub images : (g : List ℕ) → disks.left_since new (disks.moment old) g → disks.may_leave old g

-- The first sync of the call was over when the disk was `first`. Since then a crash leaves the marks before, with what
-- was to be added or without it; and one now those with all that was added.
pub record Synced {E : Type 0} (disks : DiskView E) (marks added torn_mark : List Mark) (old new : E) : Type 0 where
  pub first : E
  pub sync : IsSynced disks old first
  pub until : disks.moment first ≤ disks.moment new
  pub images : (g : List ℕ) → disks.left_since new (disks.moment first) g
      → IsWithOrWithout marks (added ++ torn_mark) g
  pub now : (g : List ℕ) → disks.may_leave new g → IsLeftWith marks added torn_mark g

-- it reads as before, and a crash at any moment of the call leaves what one before might have left, or the same octets
pub record IsAsItWas {E : Type 0} (disks : DiskView E) (f : List ℕ) (old new : E) : Type 0 where
  pub reads : disks.content new ≡ Some f
  pub images : (g : List ℕ) → disks.left_since new (disks.moment old) g → disks.may_leave old g ⊎ (g ≡ f)

-- What became of a disk of marks behind which these were added. `torn_mark` is the one in which the disk failed, if it
-- did.
pub record MarksLeft {E : Type 0} (disks : DiskView E) (old new : E) (added torn_mark : List Mark) : Type 0 where
  -- at most one mark was tried, and where the count of faults did not rise none failed
  pub one : length (added ++ torn_mark) ≤ 1
  pub later : disks.faults old ≤ disks.faults new
  pub calm : (Rose (disks.faults old) (disks.faults new) → ⊥) → torn_mark ≡ []
  -- the disk still tells what it holds
  pub told : StaysTold disks old new
  -- one that stood for marks reads as one that stands for these and those that were added
  pub stands : (f g : List ℕ) (marks : List Mark) → disks.content old ≡ Some f → disks.content new ≡ Some g
      → StandsFor f marks → IsLeftWith marks added torn_mark g
  -- and so does what a crash leaves since the first sync of the call; before it, what one before the call might have
  -- left
  pub crash : (f : List ℕ) (marks : List Mark) → disks.content old ≡ Some f → StandsFor f marks
      → Unsynced disks (added ++ torn_mark) old new ⊎ Synced disks marks added torn_mark old new
  pub before : (f : List ℕ) (marks : List Mark) → disks.content old ≡ Some f → StandsFor f marks
      → (g : List ℕ) → disks.left_since new (disks.moment old) g
      → disks.may_leave old g ⊎ IsWithOrWithout marks (added ++ torn_mark) g
  -- one that stands for no marks is as it was
  pub no_marks : (f : List ℕ) → disks.content old ≡ Some f → ((marks : List Mark) → StandsFor f marks → ⊥)
      → IsAsItWas disks f old new
