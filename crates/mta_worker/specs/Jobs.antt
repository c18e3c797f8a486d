-- The jobs of workers.
use Rattle.std.specs.Prelude.{◌≡◌, ℕ, List, [], ◌∷◌, ◌++◌, Option, Some, map}
use mathlib.Core.List.{IsPrefix}
use Rattle.mta_edge.specs.Views.{ClockView, DiskView}
use Rattle.mta_links.specs.Links.{LinkView, StationView}
use Rattle.mta_records.specs.declared.step.Step.{Step}
use Rattle.mta_session.specs.declared.limits.Limits.{Limits}
use Rattle.mta_shared.specs.Held.{Held, LockId}
use Rattle.mta_shared.specs.Passes.{IsReady, Worked}
use Rattle.mta_stations.specs.declared.end.WorkerEnd.{WorkerEnd}
use Rattle.mta_worker.specs.Working.{HasWorked}
use Rattle.mta_worker.specs.declared.jobs.Job.{Job}

module _ {S : Type 0} where
  abbrev pub station_of : Job S → S
  station_of j = j.station

  abbrev pub end_of : Job S → Option WorkerEnd
  end_of j = j.end

  -- the own entries of all jobs, those of the last one first
  abbrev pub owned_by : List (Job S) → List ℕ
  owned_by [] = []
  owned_by (j ∷ js) = owned_by js ++ j.pass.own

  -- the job's worker saw a beginning of this history
  abbrev pub SawFront : List Step → Job S → Type 0
  SawFront xs j = IsPrefix j.pass.seen xs

  -- it has one part of this lock, no turn, and no entry of its own
  pub record IsDealtOne (at : LockId) (j : Job S) : Type 0 where
    pub ready : IsReady at j.pass
    pub one : j.pass.parts ≡ 1
    pub bare : j.pass.own ≡ []

  -- and it begins with what this pass had seen
  pub record IsDealt (at : LockId) (main : Held Step) (j : Job S) : Type 0 where
    pub dealt : IsDealtOne at j
    pub seen : j.pass.seen ≡ main.seen
    pub base : j.pass.base ≡ main.base

  -- a job that was done
  pub record IsDone (at : LockId) (j : Job S) : Type 0 where
    pub ready : IsReady at j.pass
    pub one : j.pass.parts ≡ 1
    pub ended : (e : WorkerEnd) × (j.end ≡ Some e)

-- what each worker came to
abbrev pub ends_as : List WorkerEnd → List (Option WorkerEnd)
ends_as ends = map Some ends

module _ {D C L S : Type 0} (disks : DiskView D) (clocks : ClockView C) (links : LinkView L)
    (stations : StationView S) where
  -- a worker did this job
  pub record JobDone (limits : Limits) (at : LockId) (j k : Job S) : Type 0 where
    pub done : IsDone at k
    pub worked : Worked j.pass k.pass
    pub end : WorkerEnd
    pub end_is : k.end ≡ Some end
    pub did : HasWorked disks clocks links stations limits
        (record { station = j.station; pass = j.pass; sessions = 0; closed = 0 }) k.station k.pass end
    pub out : stations.out k.station ≡ stations.out j.station
