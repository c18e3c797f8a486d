-- The steps that workers make, and their moments.
use Rattle.std.specs.Prelude.{◌≡◌, ℕ, List, [], ◌∷◌, ◌++◌, Contains, map}
use Rattle.mta_edge.specs.Views.{ClockView, DiskView}
use Rattle.mta_links.specs.Links.{LinkView, StationView}
use Rattle.mta_records.specs.Body.{body_of}
use Rattle.mta_records.specs.declared.step.Step.{Step}
use Rattle.mta_histories.specs.Lanes.{State}
use Rattle.mta_histories.specs.Classes.{class_of, moment_of}
use Rattle.mta_histories.specs.History.{after, after_step}
use Rattle.mta_images.specs.Image.{AreRecords}
use Rattle.mta_session.specs.declared.limits.Limits.{Limits}
use Rattle.mta_shared.specs.declared.history.Base.{Base}
use Rattle.mta_spool.specs.Bases.{found_of, HasListed}
use Rattle.mta_spool.specs.Moments.{IsOfWorkers, IsTimedAs}
use Rattle.mta_stations.specs.declared.end.WorkerEnd.{WorkerEnd}
use Rattle.mta_worker.specs.Wholes.{AreWorkers}

-- a step that a worker makes in this state
abbrev pub IsMade : (ℕ → Type 0) → State → Step → Type 0
IsMade tells s step = IsOfWorkers (class_of step) × IsTimedAs tells s.moment (moment_of step)

-- Steps that workers make, one behind the other, from this state on.
abbrev pub AreMade : (ℕ → Type 0) → State → List Step → Type 0
AreMade tells s [] = Unit {0}
AreMade tells s (step ∷ steps) = IsMade tells s step × AreMade tells (after_step s step) steps

-- the moments that the clock listed which was handed in; any, where it listed none
abbrev pub Tells : Base → ℕ → Type 0
Tells base m = (moments : List ℕ) → HasListed base moments → Contains moments m

module _ {D C L S : Type 0} (disks : DiskView D) (clocks : ClockView C) (links : LinkView L)
    (stations : StationView S) where
  -- So are all entries that workers made over one history, behind what opening gave and what was there before them.
  abbrev pub StepsAreTimed : Type 0
  StepsAreTimed =
      (first front made : List Step) (limits : Limits) (old new : List S) (ends : List WorkerEnd) (base : Base)
      → map body_of first ≡ found_of base → AreRecords first
      → AreWorkers disks clocks links stations limits old new ends front base (front ++ made)
      → AreMade (Tells base) (after (first ++ front)) made
