-- The base of a spool under a lock, and what the spool keeps under one.
use Rattle.std.specs.Prelude.{◌≡◌, ◌⊎◌, ℕ, ◌≤◌, List, [], ◌∷◌, ◌++◌, Contains, length, map, slice_index, true, false}
use Rattle.std.specs.Prelude.{Option, None, Some}
use Rattle.mta_edge.specs.Causes.{Rose}
use Rattle.mta_edge.specs.Views.{ClockView, DiskView}
use Rattle.mta_records.specs.declared.step.Step.{Step}
use Rattle.mta_records.specs.Body.{body_of}
use Rattle.mta_histories.specs.History.{IsHistory, after}
use Rattle.mta_images.specs.Image.{AreRecords, StandsFor}
use Rattle.mta_shared.specs.declared.history.Base.{Base}
use Rattle.mta_spool.specs.Crashing.{IsLeftWith, Reached}
use Rattle.mta_spool.specs.Shown.{Shown}
use Rattle.mta_spool.specs.Stands.{Stands}

-- the bodies that stood on the disk, and those to which it was compacted, where it told what it held
abbrev pub where_told : Option (List ℕ) → (found between : List (List ℕ)) → List (List (List ℕ))
where_told None found between = []
where_told (Some f) found between = found ∷ between ∷ []

-- the moments, where the clock listed them
abbrev pub where_listed : Option (List ℕ) → List (List ℕ)
where_listed None = []
where_listed (Some moments) = moments ∷ []

-- how often the disk had failed when it was handed in
abbrev pub count_of : Base → ℕ
count_of base = slice_index base.numbers 0

-- the moment of opening's first sync
abbrev pub since_of : Base → ℕ
since_of base = slice_index base.numbers 1

-- the first gate of the records
abbrev pub gate_of : Base → ℕ
gate_of base = slice_index base.numbers 2

-- the moment at which opening was over
abbrev pub over_of : Base → ℕ
over_of base = slice_index base.numbers 3

abbrev pub first_of : List (List (List ℕ)) → List (List ℕ)
first_of [] = []
first_of (bodies ∷ more) = bodies

-- the bodies of the history that opening gave
abbrev pub found_of : Base → List (List ℕ)
found_of base = first_of base.octets

-- the disk that was handed in told what it held, which is the first bodies, and was compacted to the others
abbrev pub HasTold : Base → (found between : List (List ℕ)) → Type 0
HasTold base found between = base.octets ≡ found_of base ∷ found ∷ between ∷ []

-- the clock that was handed in listed these moments
abbrev pub HasListed : Base → List ℕ → Type 0
HasListed base moments = base.lists ≡ moments ∷ []

-- the image stands for a history of one of these two lists of bodies
pub record StandsForOne (found between : List (List ℕ)) (image : List ℕ) : Type 0 where
  pub steps : List Step
  pub bodies : (map body_of steps ≡ found) ⊎ (map body_of steps ≡ between)
  pub stands : StandsFor image steps

-- The disk tells what it holds, which is the history with the steps that were made, or with those and the one in
-- which it failed; so does a crash now; and one at a moment since opening was over leaves the history with a
-- beginning of them. One since opening's first sync leaves such a history, or what stood on the disk, or that to
-- which it was compacted.
pub record StaysSafe {D : Type 0} (disks : DiskView D) (disk : D) (since over : ℕ) (found between : List (List ℕ))
    (first added torn_step : List Step) : Type 0 where
  pub content : List ℕ
  pub told : disks.content disk ≡ Some content
  pub reads : IsLeftWith first added torn_step content
  pub now : (g : List ℕ) → disks.may_leave disk g → IsLeftWith first added torn_step g
  pub synced : since ≤ over
  pub opened : over ≤ disks.moment disk
  pub each : (g : List ℕ) → disks.left_since disk over g → Reached first (added ++ torn_step) g
  pub opening : (g : List ℕ) → disks.left_since disk since g
      → StandsForOne found between g ⊎ Reached first (added ++ torn_step) g

module _ {D C : Type 0} (disks : DiskView D) (clocks : ClockView C) where
  -- what a lock's passes share of a spool
  abbrev pub base_of : Shown D C → Base
  base_of spool = record {
    numbers = disks.faults spool.opened.disk ∷ disks.moment spool.opened.synced ∷ spool.opened.first
        ∷ disks.moment spool.opened.over ∷ [];
    lists = where_listed (clocks.moments spool.opened.clock);
    octets = spool.opened.bodies
        ∷ where_told (disks.content spool.opened.disk) spool.opened.found spool.opened.between;
  }

  -- what a spool keeps under a base
  pub record Keeps (spool : Shown D C) (base : Base) : Type 0 where
    -- its disk's count is not below the base's, and above it, or at its type's end, where a step has answered Disk
    pub count : count_of base ≤ disks.faults spool.journal.disk
    pub ended : spool.journal.ended ≡ true → Rose (count_of base) (disks.faults spool.journal.disk)
    -- its records stand from the base's gate on
    pub place : spool.journal.first ≡ gate_of base
    -- its clock tells only moments of the base
    pub clock : (moments : List ℕ) → HasListed base moments → (m : ℕ) → clocks.tells spool.clock m
        → Contains moments m
    -- the history that opening gave
    pub first : List Step
    pub found : map body_of first ≡ found_of base
    -- behind it stand the entries: in memory, and on the disk while the spool goes on
    pub each : AreRecords (first ++ spool.entries)
    pub history : IsHistory (first ++ spool.entries)
    pub state : spool.current ≡ after (first ++ spool.entries)
    pub stands : spool.journal.ended ≡ false → Stands disks spool (first ++ spool.entries)
    -- the step in which the disk failed, if it did
    pub torn_step : List Step
    pub one : length torn_step ≤ 1
    pub calm : spool.journal.ended ≡ false → torn_step ≡ []
    -- with it this is a history too
    pub tried : IsHistory (first ++ (spool.entries ++ torn_step))
    -- where the disk told what it held when it was handed in, a crash leaves this history
    pub safe : (bodies between : List (List ℕ)) → HasTold base bodies between
        → StaysSafe disks spool.journal.disk (since_of base) (over_of base) bodies between first spool.entries
        torn_step

  -- it keeps under each base what it kept before
  abbrev pub KeepsOn : Shown D C → Shown D C → Type 0
  KeepsOn old new = (base : Base) → Keeps old base → Keeps new base
