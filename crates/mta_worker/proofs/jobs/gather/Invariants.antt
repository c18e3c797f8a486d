use Rattle.std.proofs.Common.{◌≡◌, ◌+◌, ◌≤◌, List, ◌++◌, map, reverse, length, vec_len, vec_capacity, All}
use mathlib.Core.List.{IsPrefix}
use Rattle.mta_shared.specs.Passes.{lock_of, IsReady}
use Rattle.mta_worker.specs.declared.jobs.Job.{Job}
use Rattle.mta_worker.specs.Jobs.{end_of, ends_as, station_of, IsDone, owned_by, SawFront}
use Rattle.mta_worker.proofs.jobs.gather.Given as goal

abbrev pub invariant-loop-job : goal.invariant-loop-job
invariant-loop-job g l = record {
  ready : IsReady (lock_of l.shared) l.main;
  joined : List (Job g.row.S.Denot);
  rest : l.jobs.items ++ joined ≡ l.fn.jobs.items;
  parts_back : l.main.parts ≡ l.fn.main.parts + length joined;
  same : (l.main.base ≡ l.fn.main.base) × (l.main.from ≡ l.fn.main.from);
  longer : IsPrefix (l.fn.main.seen) (l.main.seen);
  order : l.stations.items ≡ reverse (map station_of joined);
  told : ends_as l.ends.items ≡ reverse (map end_of joined);
  enough : vec_len l.jobs + length joined ≤ vec_capacity l.stations;
  places : (vec_len l.jobs + length joined ≤ vec_capacity l.ends) × (vec_len l.ends ≡ length joined);
  own_all : l.main.own ≡ l.fn.main.own ++ owned_by joined;
  seen_all : All (SawFront (l.main.seen)) joined;
  done : All (IsDone (lock_of l.shared)) l.jobs.items;
}

abbrev pub decreases-loop-job : goal.decreases-loop-job
decreases-loop-job g l = vec_len l.jobs
