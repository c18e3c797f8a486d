-- What contracts see of a spool.
use Rattle.std.specs.Prelude.{ℕ, Bool, true, false, List, [], ◌∷◌, ◌++◌, Option, None, Some}
use Rattle.mta_journal.specs.Shown.{Shown as JournalShown, IsPlain}
use Rattle.mta_records.specs.Body.{body_of}
use Rattle.mta_records.specs.declared.step.Step.{Step}
use Rattle.mta_records.specs.declared.step.Step.TheVariants.{Format}
use Rattle.mta_histories.specs.Lanes.{State}
use Rattle.mta_replay.specs.Sound.{IsSound}
use Rattle.mta_replay.specs.declared.replay.InForce.{InForce}
use Rattle.mta_state.specs.declared.kept.Kept.{Kept}

-- the bodies that a compaction leaves, if there was one: that of a snapshot in the place of all
abbrev pub compacted_to : Option (List ℕ) → List (List ℕ) → List (List ℕ)
compacted_to None bodies = bodies
compacted_to (Some snapshot) bodies = snapshot ∷ []

-- and behind them the one that sets the format, if it was set
abbrev pub with_format : Bool → List (List ℕ) → List (List ℕ)
with_format true bodies = bodies ++ body_of (Format 2) ∷ []
with_format false bodies = bodies

-- what a spool was opened with, which no call changes
pub record AtOpening (D C : Type 0) : Type 0 where
  -- the disk and the clock as they were handed in
  pub disk : D
  pub clock : C
  -- the disk as the first sync left it, and as it was when opening was over
  pub synced : D
  pub over : D
  -- the bodies of the records that stood on it, those with which it was compacted, and those with which the spool goes
  -- on; and their first gate then
  pub found : List (List ℕ)
  pub between : List (List ℕ)
  pub bodies : List (List ℕ)
  pub first : ℕ

-- its journal, its clock, the state in memory, the steps that were made since it was opened, and its opening
pub record Shown (D C : Type 0) : Type 0 where
  pub journal : JournalShown D
  pub clock : C
  pub current : State
  pub entries : List Step
  pub opened : AtOpening D C

-- What is kept in memory is sound, and the journal may be appended to: its area, which begins at this gate, is the only
-- one or the first of two.
pub record IsSoundAt {R : Type 0} (format : R → ℕ) (text : R → List ℕ) (kept : Kept)
    (rules : Option (InForce R))
    (gate : ℕ) : Type 0 where
  pub sound : IsSound format text kept rules
  pub plain : IsPlain gate
