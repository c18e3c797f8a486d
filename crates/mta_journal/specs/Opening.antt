-- What opening finds and leaves.
use Rattle.std.specs.Prelude.{◌≡◌, ◌⊎◌, ◌+◌, ◌≤◌, ◌<◌, ℕ, List, [], ◌∷◌, ◌++◌, length, drop, take, Some, None, Option}
use Rattle.std.specs.Prelude.{Result, IsErrOf}
use Rattle.mta_edge.specs.Causes.{Rose}
use Rattle.mta_edge.specs.Crashes.{AtAnyMoment, Settled}
use Rattle.mta_edge.specs.Views.{DiskView}
use Rattle.mta_edge.specs.Outside.{ContentGoes}
use Rattle.mta_disk.specs.Records.{counted, frame_of}
use Rattle.mta_journal.specs.Bodies.{longest_first, records, AreWithin, HasRecords, HasAreas, HasBodies, HasBodiesAt}
use Rattle.mta_journal.specs.Bodies.{StandsFor, selector, high}
use Rattle.mta_journal.specs.Faults.{IsFaulty, IsNoJournalAt}
use Rattle.mta_journal.specs.Shown.{IsPlain}
use Rattle.mta_journal.specs.declared.why.OpenWhy.{OpenWhy}
use Rattle.mta_journal.specs.declared.why.OpenWhy.TheVariants as Whys

-- it is the same image, or both stand for no bodies
abbrev pub IsSame : List ℕ → List ℕ → Type 0
IsSame f g = (g ≡ f) ⊎ (StandsFor f [] × StandsFor g [])

-- where the answer is that the disk is no journal from a place on, that place has P
abbrev pub OnNotSpool : {T : Type 0} → Result T OpenWhy → (ℕ → Type 0) → Type 0
OnNotSpool result P = (at : ℕ) → IsErrOf result (Whys.NotSpool at) → P at

-- the disk's count of faults does not fall, and a disk fault is answered only where it rose
pub record HasOpenCause {T : Type 0} (before now : ℕ) (result : Result T OpenWhy) : Type 0 where
  pub later : before ≤ now
  pub disk : IsErrOf result Whys.Disk → Rose before now

-- these are octets of the image from an offset on
abbrev pub IsAhead : ℕ → List ℕ → List ℕ → Type 0
IsAhead at octets f = octets ≡ take (length octets) (drop at f)

-- a body stands in its record behind the open gate at this offset, and a gate behind it
pub record StandsAt (most gate : ℕ) (body f : List ℕ) : Type 0 where
  pub rest : List ℕ
  pub octets : drop gate f ≡ 1 ∷ counted body ++ rest
  pub more : 0 < length rest
  pub short : length body ≤ most

-- the gate at this offset is closed
pub record ClosedAt (gate : ℕ) (f : List ℕ) : Type 0 where
  pub octet : ℕ
  pub rest : List ℕ
  pub octets : drop gate f ≡ octet ∷ rest
  pub closed : octet ≡ 1 → ⊥

-- the gate at this offset is open and its record faulty
pub record BrokenAt (most gate : ℕ) (f : List ℕ) : Type 0 where
  pub rest : List ℕ
  pub octets : drop gate f ≡ 1 ∷ rest
  pub faulty : IsFaulty most rest

-- no one record stands from this gate on
abbrev pub HasNotOne : ℕ → List ℕ → Type 0
HasNotOne gate f = (body : List ℕ) → HasRecords gate (body ∷ []) f → ⊥

-- what follows the mark, where the disk has two areas
pub record Marks (image : List ℕ) (chosen e : ℕ) : Type 0 where
  pub areas : HasAreas image
  pub selector_is : selector image ≡ chosen
  pub high_is : high image ≡ e

-- What was found on a disk: its bodies, from this gate on, up to this size, and the frame that is kept of a second
-- area.
pub record IsPlaced {D : Type 0} (model : DiskView D) (disk : D) (first size : ℕ) (bodies : List (List ℕ))
    (frame : Option (List ℕ)) : Type 0 where
  pub file : (f : List ℕ) → model.content disk ≡ Some f → HasBodiesAt first bodies f
  pub size_is : size ≡ first + length (records bodies) + 1
  pub each : AreWithin longest_first bodies
  pub within : (f : List ℕ) → model.content disk ≡ Some f → size ≤ length f
  pub plain : frame ≡ None → IsPlain first
  pub second : (kept : List ℕ) → frame ≡ Some kept
      → (body : List ℕ) × (bodies ≡ body ∷ []) × (kept ≡ frame_of body) × (24 + length kept ≤ first)

-- what stands behind gate 8 of two areas: the open gate, the length ten and the octet FF
abbrev pub head : List ℕ
head = 1 ∷ 0 ∷ 0 ∷ 0 ∷ 10 ∷ 255 ∷ []

-- what is written behind gate 8 where two areas are begun: the length ten, FF, the selector 0, eight octets of zero,
-- and the first gate of the first area, which is closed
abbrev pub areas_frame : List ℕ
areas_frame = 0 ∷ 0 ∷ 0 ∷ 10 ∷ 255 ∷ 0 ∷ 0 ∷ 0 ∷ 0 ∷ 0 ∷ 0 ∷ 0 ∷ 0 ∷ 0 ∷ 0 ∷ []

-- where one area has no bodies the image still has none
abbrev pub KeepsNone : List ℕ → List ℕ → Type 0
KeepsNone f g = HasBodiesAt 8 [] f → HasBodies g []

-- and then the first of two areas has none
abbrev pub BeginsAreas : List ℕ → List ℕ → Type 0
BeginsAreas f g = HasBodiesAt 8 [] f → HasBodiesAt 23 [] g

-- the disk is as it was, and no journal at this place
abbrev pub IsRefused : ℕ → List ℕ → List ℕ → Type 0
IsRefused at f g = (g ≡ f) × IsNoJournalAt f at

-- a disk that does not stand for no bodies is as it was
abbrev pub KeepsFilled : {D : Type 0} → DiskView D → D → D → Type 0
KeepsFilled model old new =
    (f : List ℕ) → model.content old ≡ Some f → (StandsFor f [] → ⊥) → model.content new ≡ Some f

-- why a disk was refused
pub record HasRefused {D : Type 0} (model : DiskView D) (old new : D) (why : OpenWhy) : Type 0 where
  pub later : model.faults old ≤ model.faults new
  pub disk : why ≡ Whys.Disk → Rose (model.faults old) (model.faults new)
  pub not_spool : (at : ℕ) → why ≡ Whys.NotSpool at → ContentGoes model (IsRefused at) old new

-- a crash while the disk is opened leaves what one before might have left, or the same
abbrev pub BeforeOrSame : {D : Type 0} → DiskView D → D → List ℕ → List ℕ → Type 0
BeforeOrSame model old f g = model.may_leave old g ⊎ IsSame f g

-- since this moment of the call a crash leaves the same
pub record IsSameFrom {D : Type 0} (model : DiskView D) (f : List ℕ) (old new : D) (since : ℕ) : Type 0 where
  pub from : model.moment old ≤ since
  pub until : since ≤ model.moment new
  pub same : (g : List ℕ) → model.left_since new since g → IsSame f g

-- The first sync of a call was over when the disk was `first`. It read as before the call, nothing was pending, and
-- until then a crash left what one before the call might have left.
pub record IsSynced {D : Type 0} (model : DiskView D) (old first : D) : Type 0 where
  pub reads : model.content first ≡ model.content old
  pub settled : Settled model first
  pub until : AtAnyMoment model (model.may_leave old) old first

-- since the first sync of the call a crash leaves the same
pub record SameSince {D : Type 0} (model : DiskView D) (f : List ℕ) (old new : D) : Type 0 where
  pub first : D
  pub sync : IsSynced model old first
  pub same : IsSameFrom model f old new (model.moment first)

-- What a crash leaves of a disk on which a journal is opened: where the first sync failed, what one before might have
-- left, and since that sync the same.
pub data IsLeft {D : Type 0} (model : DiskView D) (f : List ℕ) (old new : D) : Type 0 where
  unsynced : model.content new ≡ model.content old
      → ((g : List ℕ) → model.left_since new (model.moment old) g → model.may_leave old g)
      → IsLeft model f old new
  synced : SameSince model f old new → IsLeft model f old new
