-- What opening leaves of a disk: how a spool goes on with the history that was found there.
--
-- The record of a second area is moved into the first, the journal is compacted where it has grown past its use, and
-- the format is set where the history has an older one.
use Rattle.std.specs.Prelude.{◌≡◌, ◌≢◌, ◌⊎◌, ℕ, ◌+◌, ◌≤◌, ◌<◌, ◌==◌, Bool, false, List, [], ◌∷◌, ◌++◌, map, Option}
use Rattle.std.specs.Prelude.{Result, IsOk, IsErrOf, if◌then◌else◌}
use Rattle.mta_edge.specs.Causes.{Rose}
use Rattle.mta_edge.specs.Views.{DiskView, StaysTold, WhereTold}
use Rattle.mta_edge.specs.Crashes.{AtAnyMoment}
use Rattle.mta_journal.specs.Appending.{journal_limit}
use Rattle.mta_journal.specs.Opening.{IsSynced, KeepsFilled}
use Rattle.mta_journal.specs.Shown.{Shown as JournalShown}
use Rattle.mta_journal.specs.declared.journal.AppendFault.{AppendFault}
use Rattle.mta_journal.specs.declared.journal.AppendFault.TheVariants as AppendFaults
use Rattle.mta_journal.specs.declared.why.OpenWhy.{OpenWhy as JournalWhy}
use Rattle.mta_journal.specs.declared.why.OpenWhy.TheVariants as JournalWhys
use Rattle.mta_records.specs.Body.{body_of}
use Rattle.mta_records.specs.declared.fault.StepFault.{StepFault}
use Rattle.mta_records.specs.declared.fault.StepFault.TheVariants as StepFaults
use Rattle.mta_records.specs.declared.step.Step.{Step}
use Rattle.mta_records.specs.declared.step.Step.TheVariants.{Format}
use Rattle.mta_histories.specs.Lanes.{State}
use Rattle.mta_histories.specs.Compact.{base, opened, IsLeftOf}
use Rattle.mta_histories.specs.History.{after}
use Rattle.mta_images.specs.Image.{NoSpoolAt, OpensAt, size_of, StandsFor}
use Rattle.mta_images.specs.Opened.{base_of, IsFound, IsFullForFormat, IsLeftByOpening, Opens}
use Rattle.mta_spool.specs.Opening.{IsSameFrom, OpensSafely, StaysOther}
use Rattle.mta_spool.specs.Shown.{Shown, compacted_to, with_format}
use Rattle.mta_spool.specs.Stands.{IsHeld, need_of, Stands}
use Rattle.mta_spool.specs.declared.why.OpenWhy.{OpenWhy}
use Rattle.mta_spool.specs.declared.why.OpenWhy.TheVariants as Whys

-- ---- why it is not opened

abbrev pub why_of_journal : JournalWhy → OpenWhy
why_of_journal (JournalWhys.NotSpool at) = Whys.NotSpool at
why_of_journal JournalWhys.Disk = Whys.Disk
why_of_journal JournalWhys.Memory = Whys.Memory

-- of a journal that is written anew
abbrev pub why_of_append : AppendFault → OpenWhy
why_of_append (AppendFaults.Full size need) = Whys.Memory
why_of_append AppendFaults.Disk = Whys.Disk
why_of_append AppendFaults.Ended = Whys.Memory
why_of_append AppendFaults.Memory = Whys.Memory

-- of the format that is set
abbrev pub why_of_step : StepFault → OpenWhy
why_of_step (StepFaults.Full size need) = Whys.Full size need
why_of_step StepFaults.Disk = Whys.Disk
why_of_step StepFaults.Ended = Whys.Memory
why_of_step (StepFaults.Fenced generation) = Whys.Memory
why_of_step (StepFaults.NoLane lane) = Whys.Memory
why_of_step (StepFaults.BusyLanes count) = Whys.Memory
why_of_step StepFaults.Unexpected = Whys.Memory
why_of_step (StepFaults.Spent last) = Whys.Memory
why_of_step StepFaults.Memory = Whys.Memory

-- ---- the history is found

-- The journal was opened and its bodies were replayed: both stand for a history, which is that of the disk where it
-- tells what it holds. A disk with records was only read.
pub record HasFound {D : Type 0} (model : DiskView D) (old : D) (journal : JournalShown D) (state : State)
    (bodies : List (List ℕ)) (first : D) : Type 0 where
  pub steps : List Step
  pub held : IsHeld model journal state steps
  pub history : WhereTold model old (λ f. StandsFor f steps)
  pub bodies_are : bodies ≡ map body_of steps
  -- a journal of one area has records
  pub some : journal.first ≡ 8 → 9 < journal.size
  pub later : model.faults old ≤ model.faults journal.disk
  pub told : StaysTold model old journal.disk
  pub kept : KeepsFilled model old journal.disk
  pub images : OpensSafely model old journal.disk
  -- the disk as the call's first sync left it, and that since then a crash leaves the same
  pub sync : IsSynced model old first
  pub since : WhereTold model old (λ f. IsSameFrom model f old journal.disk (model.moment first))

-- ---- and another takes its place

-- the image stands for one history or the other
abbrev pub IsEither : List Step → List Step → List ℕ → Type 0
IsEither steps next image = StandsFor image steps ⊎ StandsFor image next

-- What a call leaves behind which another history stands in the place of this one.
pub record Becomes {D T : Type 0} (model : DiskView D) (steps next : List Step) (old new : JournalShown D)
    (state : State) (result : Result T OpenWhy) : Type 0 where
  pub done : IsOk result → IsHeld model new state next
  -- the disk tells what it holds where it told it
  pub told : StaysTold model old.disk new.disk
  -- a crash at any moment of the call leaves the one or the other
  pub images : WhereTold model old.disk (λ f. AtAnyMoment model (IsEither steps next) old.disk new.disk)
  -- the disk's count of faults does not fall, and Disk comes only where it rose
  pub later : model.faults old.disk ≤ model.faults new.disk
  pub disk : IsErrOf result Whys.Disk → Rose (model.faults old.disk) (model.faults new.disk)
  -- the place of what is no spool never comes
  pub spool : (at : ℕ) → IsErrOf result (Whys.NotSpool at) → ⊥

-- so is each history that they stand for gone on with
abbrev pub EachBecomes : {D T : Type 0} → DiskView D → (next : List Step → List Step) → (old : JournalShown D)
    → (before : State) → (new : JournalShown D) → (state : State) → Result T OpenWhy → Type 0
EachBecomes model next old before new state result =
    (steps : List Step) → IsHeld model old before steps → Becomes model steps (next steps) old new state result

-- Full never comes
abbrev pub NeverFull : {T : Type 0} → Result T OpenWhy → Type 0
NeverFull result = (size need : ℕ) → IsErrOf result (Whys.Full size need) → ⊥

-- the history with the format behind it, where it has an older one
abbrev pub in_format : List Step → List Step
in_format steps = if (after steps).machine.format == 2 then steps else steps ++ Format 2 ∷ []

-- Full comes only where the format is to be set and its record would pass the limit.
pub record IsFullOnlyThere {D T : Type 0} (old : JournalShown D) (state : State) (result : Result T OpenWhy)
    : Type 0 where
  pub full : (size need : ℕ) → IsErrOf result (Whys.Full size need)
      → (state.machine.format == 2 ≡ false) × (size ≡ old.size) × (need ≡ need_of (Format 2))
      × (journal_limit < size + need)
  pub fits : IsOk result → state.machine.format == 2 ≡ false → old.size + need_of (Format 2) ≤ journal_limit

-- the journal and the state stand for some history
abbrev pub IsOfHistory : {D : Type 0} → DiskView D → JournalShown D → State → Type 0
IsOfHistory model journal state = (steps : List Step) × IsHeld model journal state steps

-- this is the body of the snapshot to which the history was compacted that the journal held, if it was
abbrev pub Shows : {D : Type 0} → JournalShown D → State → Bool → Option (List ℕ) → Type 0
Shows old state first_of_two snapshot =
    (steps : List Step) → state ≡ after steps
    → compacted_to snapshot (map body_of steps) ≡ map body_of (base first_of_two old.size steps)

-- so it is of the journal that was found, and this says whether the format was set behind it
abbrev pub IsDone : {D : Type 0} → JournalShown D → State → Option (List ℕ) → Bool → Type 0
IsDone old state snapshot sets_format =
    Shows old state (old.first == 23) snapshot
    × ((steps : List Step) → state ≡ after steps
    → with_format sets_format (compacted_to snapshot (map body_of steps))
    ≡ map body_of (opened (old.first == 23) old.size steps))

-- the records stand from this gate on once what stood in a second area was moved
abbrev pub IsGateFrom : (first gate : ℕ) → Type 0
IsGateFrom first gate = (first ≡ 8 → gate ≡ 8) × (first ≢ 8 → gate ≡ 23)

-- the image stands for a history that opening may leave
abbrev pub StandsForLeft : Bool → ℕ → List Step → List ℕ → Type 0
StandsForLeft first_of_two size steps image =
    (left : List Step) × IsLeftOf first_of_two size steps left × StandsFor image left

-- What going on leaves of a journal that stood for this history.
pub record GoesOnFrom {D T : Type 0} (model : DiskView D) (steps : List Step) (old new : JournalShown D)
    (state : State) (result : Result T OpenWhy) : Type 0 where
  pub done : IsOk result → IsHeld model new state (opened (old.first == 23) old.size steps)
  pub place : IsOk result → IsGateFrom old.first new.first
  pub told : StaysTold model old.disk new.disk
  pub images : WhereTold model old.disk
      (λ f. AtAnyMoment model (StandsForLeft (old.first == 23) old.size steps) old.disk new.disk)
  pub later : model.faults old.disk ≤ model.faults new.disk
  pub disk : IsErrOf result Whys.Disk → Rose (model.faults old.disk) (model.faults new.disk)
  pub spool : (at : ℕ) → IsErrOf result (Whys.NotSpool at) → ⊥
  -- Full comes exactly where the format is to be set and its record would pass the limit
  pub full : (size need : ℕ) → IsErrOf result (Whys.Full size need)
      → ((after steps).machine.format == 2 ≡ false) × (need ≡ need_of (Format 2))
      × (journal_limit < size + need)
      × ((gate : ℕ) → IsGateFrom old.first gate → size ≡ size_of gate (base (old.first == 23) old.size steps))
  pub fits : IsOk result → (after steps).machine.format == 2 ≡ false → (gate : ℕ) → IsGateFrom old.first gate
      → size_of gate (base (old.first == 23) old.size steps) + need_of (Format 2) ≤ journal_limit

-- what it leaves of each history for which the journal stood
abbrev pub GoesOn : {D T : Type 0} → DiskView D → (old : JournalShown D) → (before : State)
    → (new : JournalShown D)
    → (state : State) → Result T OpenWhy → Type 0
GoesOn model old before new state result =
    (steps : List Step) → IsHeld model old before steps → GoesOnFrom model steps old new state result

-- ---- what a crash leaves

-- it is the same image, or one that opening it may leave
abbrev pub IsSameOrLeft : List ℕ → List ℕ → Type 0
IsSameOrLeft f g = (g ≡ f) ⊎ IsLeftByOpening f g

-- a crash while the spool is opened leaves what one before might have left, or that
abbrev pub BeforeOrLeft : {D : Type 0} → DiskView D → D → List ℕ → List ℕ → Type 0
BeforeOrLeft model old f g = model.may_leave old g ⊎ IsSameOrLeft f g

-- since this moment of the call a crash leaves that
pub record IsLeftFrom {D : Type 0} (model : DiskView D) (f : List ℕ) (old new : D) (since : ℕ) : Type 0 where
  pub from : model.moment old ≤ since
  pub until : since ≤ model.moment new
  pub left : (g : List ℕ) → model.left_since new since g → IsSameOrLeft f g

-- since the first sync of the call a crash leaves that
pub record LeftSince {D : Type 0} (model : DiskView D) (f : List ℕ) (old new : D) : Type 0 where
  pub first : D
  pub sync : IsSynced model old first
  pub left : IsLeftFrom model f old new (model.moment first)

-- What a crash leaves of a disk on which a spool was not opened: where the first sync failed, what one before might
-- have left, and since that sync the same, or what opening may leave.
pub data IsStopped {D : Type 0} (model : DiskView D) (f : List ℕ) (old new : D) : Type 0 where
  unsynced : model.content new ≡ model.content old
      → ((g : List ℕ) → model.left_since new (model.moment old) g → model.may_leave old g)
      → IsStopped model f old new
  synced : LeftSince model f old new → IsStopped model f old new

-- at any moment of opening a crash leaves what one before might have left, or what opening may leave
abbrev pub GoesOnSafely : {D : Type 0} → DiskView D → D → D → Type 0
GoesOnSafely model old new = WhereTold model old (λ f. AtAnyMoment model (BeforeOrLeft model old f) old new)

-- ---- what opening answers

-- The disk was opened: the spool stands for the history with which it goes on from the one that was found.
pub record HasOpened {D C : Type 0} (model : DiskView D) (old : D) (spool : Shown D C) : Type 0 where
  -- what was found, what that was compacted to, and what the spool goes on with
  pub found : List Step
  pub between : List Step
  pub steps : List Step
  pub stands : Stands model spool steps
  pub opens : WhereTold model old (λ f. Opens f found steps)
  pub compacted : WhereTold model old (λ f. (is : IsFound f found) → between ≡ base_of is)
  -- its records stand where those of that disk do, but for those in the second area
  pub place : WhereTold model old (λ f. OpensAt f spool.journal.first)
  -- the format was to be set only where it fits
  pub fits : WhereTold model old (λ f. (size need : ℕ) → IsFullForFormat f size need → ⊥)
  pub later : model.faults old ≤ model.faults spool.journal.disk
  pub told : StaysTold model old spool.journal.disk
  pub images : GoesOnSafely model old spool.journal.disk
  -- the disk as the call's first sync left it, and that since then a crash leaves what opening may leave
  pub sync : IsSynced model old spool.opened.synced
  pub synced : WhereTold model old (λ f. IsLeftFrom model f old spool.journal.disk (model.moment spool.opened.synced))
  -- no step was made yet, and what it was opened with is known
  pub none : spool.entries ≡ []
  pub disk : spool.opened.disk ≡ old
  pub over : spool.opened.over ≡ spool.journal.disk
  pub first : spool.opened.first ≡ spool.journal.first
  pub found_is : spool.opened.found ≡ map body_of found
  pub between_is : spool.opened.between ≡ map body_of between
  pub bodies : spool.opened.bodies ≡ map body_of steps

-- The disk was refused.
pub record HasNotOpened {D : Type 0} (model : DiskView D) (old new : D) (why : OpenWhy) : Type 0 where
  pub later : model.faults old ≤ model.faults new
  pub disk : why ≡ Whys.Disk → Rose (model.faults old) (model.faults new)
  -- it is no spool, and from where on
  pub not_spool : (at : ℕ) → why ≡ Whys.NotSpool at → WhereTold model old (λ f. NoSpoolAt f at)
  -- or the format does not fit
  pub full : (size need : ℕ) → why ≡ Whys.Full size need
      → WhereTold model old (λ f. IsFullForFormat f size need)
  -- one that stands for no history is as it was
  pub kept : StaysOther model old new
  pub told : StaysTold model old new
  pub images : GoesOnSafely model old new
  -- where its first sync failed a crash leaves what one before might have left, and since that sync what
  -- opening may leave
  pub left : WhereTold model old (λ f. IsStopped model f old new)
