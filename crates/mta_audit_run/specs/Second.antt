-- What comes of the second disk, where the first is opened.
use Rattle.std.specs.Prelude.{◌≡◌, ℕ, List, Result, Ok, Err}
use Rattle.mta_edge.specs.Causes.{Rose}
use Rattle.mta_edge.specs.Views.{DiskView, WhereTold}
use Rattle.mta_records.specs.declared.step.Step.{Step}
use Rattle.mta_images.specs.Image.{NoSpoolAt}
use Rattle.mta_audit_run.specs.declared.audit.Report.{Report}
use Rattle.mta_audit_run.specs.declared.side.Side.{Side}
use Rattle.mta_audit_run.specs.declared.stop.Spool.TheVariants.{Second}
use Rattle.mta_audit_run.specs.declared.stop.Stop.{Stop}
use Rattle.mta_audit_run.specs.declared.stop.Stop.TheVariants as Stops
use Rattle.mta_audit_run.specs.Kept.{IsKept, IsRead}
use Rattle.mta_audit_run.specs.Outcome.{IsReportOf}
use Rattle.mta_audit_run.specs.Sides.{IsSideOf}

-- the report of two spools, or want of memory for it
abbrev pub IsReported : Side → Side → Result Report Stop → Type 0
IsReported x y (Ok r) = IsReportOf x y r
IsReported x y (Err stop) = stop ≡ Stops.Memory

-- what comes of the second disk
pub data SecondOutcome {E : Type 0} (model : DiskView E) (x : Side) (old new : E) : Result Report Stop → Type 0 where
  none : (at : ℕ) → WhereTold model old (λ f. NoSpoolAt f at)
      → SecondOutcome model x old new (Err (Stops.NotSpool Second at))
  failed : Rose (model.faults old) (model.faults new) → SecondOutcome model x old new (Err Stops.Disk)
  seen : (t : List Step) (y : Side) (r : Report) → IsSideOf t y → IsRead model t old new → IsReportOf x y r
      → SecondOutcome model x old new (Ok r)
  short : SecondOutcome model x old new (Err Stops.Memory)

-- and what it leaves of it
pub record HasSeen {E : Type 0} (model : DiskView E) (x : Side) (old new : E) (result : Result Report Stop) : Type 0
  where
    pub kept : IsKept model old new
    pub outcome : SecondOutcome model x old new result
