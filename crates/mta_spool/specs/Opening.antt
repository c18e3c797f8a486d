-- What opening leaves of a disk while it finds what stands there.
use Rattle.std.specs.Prelude.{◌≡◌, ◌⊎◌, ℕ, ◌≤◌, List, Some}
use Rattle.mta_edge.specs.Causes.{Rose}
use Rattle.mta_edge.specs.Views.{DiskView, StaysTold, WhereTold}
use Rattle.mta_edge.specs.Crashes.{AtAnyMoment}
use Rattle.mta_journal.specs.Opening.{IsSynced, KeepsFilled}
use Rattle.mta_journal.specs.declared.why.OpenWhy.{OpenWhy}
use Rattle.mta_journal.specs.declared.why.OpenWhy.TheVariants as Whys
use Rattle.mta_records.specs.declared.step.Step.{Step}
use Rattle.mta_images.specs.Image.{StandsFor, NoSpoolAt}

-- it is the same image, or both stand for one history
abbrev pub IsSame : List ℕ → List ℕ → Type 0
IsSame f g = (g ≡ f) ⊎ ((steps : List Step) × StandsFor f steps × StandsFor g steps)

-- a crash while the disk is opened leaves what one before might have left, or the same
abbrev pub BeforeOrSame : {D : Type 0} → DiskView D → D → List ℕ → List ℕ → Type 0
BeforeOrSame model old f g = model.may_leave old g ⊎ IsSame f g

-- since this moment of the call a crash leaves the same
pub record IsSameFrom {D : Type 0} (model : DiskView D) (f : List ℕ) (old new : D) (since : ℕ) : Type 0 where
  pub from : model.moment old ≤ since
  pub until : since ≤ model.moment new
  pub same : (g : List ℕ) → model.left_since new since g → IsSame f g

-- since the first sync of the call a crash leaves the same
pub record SameSince {D : Type 0} (model : DiskView D) (f : List ℕ) (old new : D) : Type 0 where
  pub first : D
  pub sync : IsSynced model old first
  pub same : IsSameFrom model f old new (model.moment first)

-- What a crash leaves of a disk on which a spool is looked for: where the first sync failed, what one before might have
-- left, and since that sync the same.
pub data IsLeft {D : Type 0} (model : DiskView D) (f : List ℕ) (old new : D) : Type 0 where
  unsynced : model.content new ≡ model.content old
      → ((g : List ℕ) → model.left_since new (model.moment old) g → model.may_leave old g)
      → IsLeft model f old new
  synced : SameSince model f old new → IsLeft model f old new

-- a disk that stands for no history is as it was
abbrev pub StaysOther : {D : Type 0} → DiskView D → D → D → Type 0
StaysOther model old new =
    (f : List ℕ) → model.content old ≡ Some f → ((steps : List Step) → StandsFor f steps → ⊥)
    → model.content new ≡ Some f

-- at any moment of opening a crash leaves what one before might have left, or the same
abbrev pub OpensSafely : {D : Type 0} → DiskView D → D → D → Type 0
OpensSafely model old new = WhereTold model old (λ f. AtAnyMoment model (BeforeOrSame model old f) old new)

-- The disk was refused before anything was written to it but, where it had no records, the beginning of two areas.
pub record HasRefused {D : Type 0} (model : DiskView D) (old new : D) (why : OpenWhy) : Type 0 where
  pub later : model.faults old ≤ model.faults new
  pub disk : why ≡ Whys.Disk → Rose (model.faults old) (model.faults new)
  -- it is no spool, and from where on
  pub not_spool : (at : ℕ) → why ≡ Whys.NotSpool at → WhereTold model old (λ f. NoSpoolAt f at)
  -- one that stands for no history is as it was, and one that has records too where the disk has not failed
  pub kept : StaysOther model old new
  pub filled : (why ≡ Whys.Disk → ⊥) → KeepsFilled model old new
  pub told : StaysTold model old new
  pub images : OpensSafely model old new
  -- where its first sync failed a crash leaves what one before might have left, and since that sync the same
  pub left : WhereTold model old (λ f. IsLeft model f old new)
