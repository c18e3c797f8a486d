-- The state in memory with which a history begins.
use Rattle.std.specs.Prelude.{◌≡◌, ◌≤◌, true, Option, Some, None}
use Rattle.std.specs.List.{AllByRecursion}
use Rattle.mta_ber.specs.Times.{last_moment}
use Rattle.mta_records.specs.Snapshots.{is_format}
use Rattle.mta_records.specs.State.{SnapshotValue}
use Rattle.mta_histories.specs.Lanes.{empty}
use Rattle.mta_histories.specs.Sound.{HasCodes, CanBegin, IsSoundItem, state_begun}
use Rattle.mta_state.specs.Kept.{state_of}
use Rattle.mta_state.specs.declared.kept.Kept.{Kept}
use Rattle.mta_snapshots.specs.Items.{HasStringOf}
use Rattle.mta_snapshots.specs.Lanes.{IsAlone, IsSpelled}

-- the state can begin a history, and is this in memory; none where it cannot
abbrev pub Begins : SnapshotValue → Option Kept → Type 0
Begins t None = CanBegin empty t t.moment → ⊥
Begins t (Some kept) = CanBegin empty t t.moment × (state_of kept ≡ state_begun t)

-- what a snapshot has by its form
pub record HasForm (t : SnapshotValue) : Type 0 where
  pub moment : t.moment ≤ last_moment
  pub format : is_format t.format ≡ true
  pub strings : AllByRecursion HasStringOf t.items
  pub spelled : AllByRecursion IsSpelled t.lanes

-- The items and the lanes of a snapshot are such, each looked at by itself: each item is sound and has as many codes as
-- recipients for whom this agent is responsible, and the halves of each lane fit.
pub record IsEachFit (t : SnapshotValue) : Type 0 where
  pub codes : AllByRecursion HasCodes t.items
  pub items : AllByRecursion (IsSoundItem t.moment) (state_begun t).machine.items
  pub lanes : AllByRecursion IsAlone t.lanes

-- this is the state in memory, where each item and each lane is such by itself
abbrev pub Stands : SnapshotValue → Option Kept → Type 0
Stands t None = IsEachFit t → ⊥
Stands t (Some kept) = IsEachFit t × (state_of kept ≡ state_begun t)
