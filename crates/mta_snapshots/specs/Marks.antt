-- Marks of the recipients who are free: pending, and in no activity that may be completed.
use Rattle.std.specs.Prelude.{◌≡◌, ℕ, suc, ◌<◌, ◌≤◌, ◌==◌, ◌||◌, ◌&&◌, not, Bool, true, false, List, length, map}
use Rattle.std.specs.Prelude.{slice_get, Option, Some, None}
use Rattle.std.specs.Prelude.{if◌then◌else◌}
use Rattle.mta_records.specs.State.{Lane}
use Rattle.mta_records.specs.declared.state.Status.{Status}
use Rattle.mta_machine.specs.Items.{ItemValue, numbered, names, AreDifferent, has_status, is_pending}
use Rattle.mta_records.specs.declared.state.MailboxLine.{MailboxLine}
use Rattle.mta_histories.specs.Compact.{is_named}
use Rattle.mta_histories.specs.Lanes.{EachLane, holds, activities_of}
use Rattle.mta_snapshots.specs.Fits.{TransfersOnce}

abbrev pub is_marked : Option Bool → Bool
is_marked None = false
is_marked (Some b) = b

abbrev pub mark_in : Option (List Bool) → ℕ → Bool
mark_in None r = false
mark_in (Some flags) r = is_marked (numbered flags r)

-- whether a recipient of an item is marked
abbrev pub mark_at : List (List Bool) → ℕ → ℕ → Bool
mark_at marks i r = mark_in (numbered marks i) r

-- who is pending is marked at first
abbrev pub is_waiting : Option Status → Bool
is_waiting status = has_status is_pending (Some status)

abbrev pub marks_in : ItemValue → List Bool
marks_in item = map is_waiting item.statuses

-- these recipients of an item are marked, and none stands twice
pub record AreFree (marks : List (List Bool)) (i : ℕ) (rs : List ℕ) : Type 0 where
  pub different : AreDifferent rs
  pub free : (r : ℕ) → names rs r ≡ true → mark_at marks i r ≡ true

-- their marks are gone
abbrev pub AreGone : (old new : List (List Bool)) → ℕ → List ℕ → Type 0
AreGone old new i rs = (j q : ℕ) → mark_at new j q ≡ (mark_at old j q && not ((j == i) && names rs q))

-- those for whom a lane transfers what may be completed are marked, and none stands twice
pub record IsFreeFor (marks : List (List Bool)) (lane : Lane) : Type 0 where
  pub different : TransfersOnce lane
  pub free : (i r : ℕ) → holds i r lane ≡ true → mark_at marks i r ≡ true

abbrev pub AreGoneFor : (old new : List (List Bool)) → Lane → Type 0
AreGoneFor old new lane = (j q : ℕ) → mark_at new j q ≡ (mark_at old j q && not (holds j q lane))

-- each marked recipient is in one activity at most that may be completed, once, and no other is in any
pub record AreOnceAmong (marks : List (List Bool)) (lanes : List Lane) : Type 0 where
  pub different : EachLane TransfersOnce lanes
  pub once : (i r : ℕ) → activities_of lanes i r ≤ (if mark_at marks i r then 1 else 0)

-- ---- items that deliveries name

-- this number is marked, where there is that number, and the others as before
pub record AreMarked (old new : List Bool) (number : ℕ) : Type 0 where
  pub count : length new ≡ length old
  pub marks : (k : ℕ) → k < length old
      → is_marked (slice_get new k) ≡ (is_marked (slice_get old k) || (number == suc k))

-- of so many items those are marked whom a delivery names
abbrev pub AreNamed : (count : ℕ) → List MailboxLine → List Bool → Type 0
AreNamed count lines flags = (k : ℕ) → k < count → is_marked (slice_get flags k) ≡ is_named lines (suc k)
