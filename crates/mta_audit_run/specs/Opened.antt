-- What opening a disk for an audit finds and leaves.
use Rattle.std.specs.Prelude.{◌≤◌, List}
use Rattle.mta_edge.specs.Views.{DiskView, StaysTold, WhereTold}
use Rattle.mta_journal.specs.Opening.{IsSynced, KeepsFilled}
use Rattle.mta_journal.specs.declared.why.OpenWhy.{OpenWhy}
use Rattle.mta_records.specs.declared.step.Step.{Step}
use Rattle.mta_images.specs.Image.{StandsFor}
use Rattle.mta_spool.specs.Opening.{HasRefused, IsSameFrom, OpensSafely}
use Rattle.mta_audit_run.specs.declared.side.Side.{Side}
use Rattle.mta_audit_run.specs.Sides.{IsSideOf}

-- The disk was opened: this is what the history for which it stands tells, where it tells what it holds.
pub record IsOpened {D : Type 0} (model : DiskView D) (old new : D) (side : Side) : Type 0 where
  pub steps : List Step
  pub side_is : IsSideOf steps side
  pub history : WhereTold model old (λ f. StandsFor f steps)
  pub later : model.faults old ≤ model.faults new
  pub kept : KeepsFilled model old new
  pub told : StaysTold model old new
  pub images : OpensSafely model old new
  -- the disk as the call's first sync left it, and that since then a crash leaves the same
  pub first : D
  pub sync : IsSynced model old first
  pub since : WhereTold model old (λ f. IsSameFrom model f old new (model.moment first))

-- The disk was refused, as opening a spool on it is, and one that has records is as it was.
pub record IsRefused {D : Type 0} (model : DiskView D) (old new : D) (why : OpenWhy) : Type 0 where
  pub refused : HasRefused model old new why
  pub kept : KeepsFilled model old new
