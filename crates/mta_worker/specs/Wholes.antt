-- What a whole run of workers leaves.
use Rattle.std.specs.Prelude.{◌≡◌, ◌<◌, ℕ, List, [], ◌++◌, All, length, map, reverse, slice_index_or}
use Rattle.mta_edge.specs.Views.{ClockView, DiskView}
use Rattle.mta_links.specs.Links.{LinkView, StationView}
use Rattle.mta_records.specs.declared.step.Step.{Step}
use Rattle.mta_session.specs.declared.limits.Limits.{Limits}
use Rattle.mta_shared.specs.declared.history.Base.{Base}
use Rattle.mta_shared.specs.Held.{LockId}
use Rattle.mta_shared.specs.Counts.{times, row}
use Rattle.mta_stations.specs.declared.end.WorkerEnd.{WorkerEnd}
use Rattle.mta_worker.specs.declared.jobs.Job.{Job}
use Rattle.mta_worker.specs.Jobs.{end_of, ends_as, JobDone, owned_by, SawFront, station_of}

-- Each station had one worker, which began with these entries and this base and has done its job. Each entry of the
-- history behind those is the own entry of exactly one worker.
pub record AreWorkers {D C L S : Type 0} (disks : DiskView D) (clocks : ClockView C) (links : LinkView L)
    (stations : StationView S) (limits : Limits) (before after : List S) (ends : List WorkerEnd)
    (first : List Step) (base : Base) (xs : List Step) : Type 0 where
  pub lock : LockId
  pub dealt : List (Job S)
  pub done : List (Job S)
  pub before_are : reverse (map station_of dealt) ≡ before
  pub after_are : reverse (map station_of done) ≡ after
  pub ends_are : reverse (map end_of done) ≡ ends_as ends
  pub as_many : length done ≡ length dealt
  pub begin : All (λ (j : Job S). (j.pass.seen ≡ first) × (j.pass.base ≡ base) × (j.pass.own ≡ [])) dealt
  pub each : (i : ℕ) (d : Job S) → i < length dealt → JobDone disks clocks links stations limits lock
      (slice_index_or dealt i d) (slice_index_or done i d)
  pub shares : (p : ℕ) → times p (row 0 (length first) ++ owned_by done) ≡ times p (row 0 (length xs))
  pub seen : All (SawFront xs) done
