-- What a standby makes of a unit that came.
use Rattle.std.specs.Prelude.{◌≡◌, ◌≢◌, ℕ, ◌+◌, ◌≤◌, ◌<◌, Bool, true, false, List, ◌∷◌, ◌++◌, length}
use Rattle.std.specs.Prelude.{Result, Ok, Err}
use Rattle.mta_edge.specs.Views.{DiskView}
use Rattle.mta_journal.specs.Appending.{Appends, IsShortEnough, journal_limit}
use Rattle.mta_journal.specs.Bodies.{need_of}
use Rattle.mta_journal.specs.Shown.{Shown}
use Rattle.mta_journal.specs.declared.journal.AppendFault.{AppendFault}
use Rattle.mta_journal.specs.declared.journal.AppendFault.TheVariants as Faults
use Rattle.mta_records.specs.Body.{HasFields, body_of}
use Rattle.mta_records.specs.declared.step.Step.{Step}
use Rattle.mta_follow_units.specs.declared.due.Due.TheVariants as due
use Rattle.mta_follow_units.specs.Units.{IsBad, done_unit, most, record_unit}
use Rattle.mta_follow_run.specs.declared.stop.Stop.{Stop}
use Rattle.mta_follow_run.specs.declared.stop.Stop.TheVariants as Stops

-- no step has this body
abbrev pub IsNoRecord : List ℕ → Type 0
IsNoRecord body = (step : Step) → HasFields step → body_of step ≡ body → ⊥

-- a step has this body
pub record IsRecord (body : List ℕ) : Type 0 where
  pub step : Step
  pub fields : HasFields step
  pub body_is : body_of step ≡ body

-- behind so many of the bodies stands this one
pub record StandsBehind (count : ℕ) (own : List ℕ) (bodies : List (List ℕ)) : Type 0 where
  pub front : List (List ℕ)
  pub more : List (List ℕ)
  pub bodies_are : bodies ≡ front ++ own ∷ more
  pub count_is : count ≡ length front

-- What comes of reading a body, whose unit stands at this offset: a step has it, or none.
pub data Judges (at : ℕ) (body : List ℕ) : Result Unit Stop → Type 0 where
  judged : IsRecord body → Judges at body (Ok tt)
  judged_none : IsNoRecord body → Judges at body (Err (Stops.BadUnit at))
  judged_short : Judges at body (Err Stops.Memory)

-- What comes of appending a record with this body, whose unit stands at this offset.
pub data Adds {D : Type 0} (disks : DiskView D) (at : ℕ) (body : List ℕ) (old new : Shown D)
    : Result Unit Stop → Type 0 where
  added : IsRecord body → (r : Result Unit AppendFault) → r ≡ Ok tt → Appends disks body old new r
      → Adds disks at body old new (Ok tt)
  no_step : IsNoRecord body → new ≡ old → Adds disks at body old new (Err (Stops.BadUnit at))
  no_room : (size need : ℕ) → IsRecord body → size ≡ old.size → need ≡ need_of body
      → journal_limit < size + need
      → new ≡ old → Adds disks at body old new (Err (Stops.Full size need))
  add_failed : IsRecord body → (r : Result Unit AppendFault) → r ≡ Err Faults.Disk
      → Appends disks body old new r
      → Adds disks at body old new (Err Stops.Disk)
  add_short : new ≡ old → Adds disks at body old new (Err Stops.Memory)

-- What comes of a record behind so many: it is the one that stands there, or another; or none stands there, and it is
-- appended.
pub data Keeps {D : Type 0} (disks : DiskView D) (kept : List (List ℕ)) (count at : ℕ) (body : List ℕ)
    (old new : Shown D) : Result Unit Stop → Type 0 where
  is_equal : StandsBehind count body kept → new ≡ old → Keeps disks kept count at body old new (Ok tt)
  is_other : (own : List ℕ) → StandsBehind count own kept → own ≢ body → new ≡ old
      → Keeps disks kept count at body old new (Err (Stops.Diverged (count + 1)))
  is_behind : (result : Result Unit Stop) → length kept ≤ count → Adds disks at body old new result
      → Keeps disks kept count at body old new result

-- no more records came than so many: more may be kept
pub data IsEnded (kept count : ℕ) : Result Unit Stop → Type 0 where
  no_more : kept ≤ count → IsEnded kept count (Ok tt)
  some_more : count < kept → IsEnded kept count (Err (Stops.Diverged count))

-- a record that may be next behind so many is short enough for the journal
abbrev pub MayKeep : {D : Type 0} → Shown D → ℕ → Type 0
MayKeep journal count = (body : List ℕ) → length body ≤ most count
    → IsShortEnough journal.first journal.size body

-- What comes of the unit of these octets, which stands at this offset behind so many records: it is answered whether it
-- is one more.
pub data Takes {D : Type 0} (disks : DiskView D) (kept : List (List ℕ)) (count at : ℕ) (octets : List ℕ)
    (old new : Shown D) : Result Bool Stop → Type 0 where
  takes_one : (body : List ℕ) → octets ≡ record_unit body → length body ≤ most count
      → Keeps disks kept count at body old new (Ok tt) → Takes disks kept count at octets old new (Ok true)
  takes_none : (body : List ℕ) (stop : Stop) → octets ≡ record_unit body → length body ≤ most count
      → Keeps disks kept count at body old new (Err stop) → Takes disks kept count at octets old new (Err stop)
  takes_done : octets ≡ done_unit count → length kept ≤ count → new ≡ old
      → Takes disks kept count at octets old new (Ok false)
  takes_more : octets ≡ done_unit count → count < length kept → new ≡ old
      → Takes disks kept count at octets old new (Err (Stops.Diverged count))
  takes_bad : IsBad (due.Record count) octets → new ≡ old
      → Takes disks kept count at octets old new (Err (Stops.BadUnit at))
