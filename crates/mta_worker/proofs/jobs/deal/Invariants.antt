use Rattle.std.proofs.Common.{◌≡◌, ◌+◌, ◌<◌, ◌≤◌, ◌++◌, map, reverse, vec_len, vec_capacity, All}
use Rattle.mta_shared.specs.Passes.{lock_of, IsReady}
use Rattle.mta_worker.specs.Jobs.{station_of, IsDealt, IsDealtOne}
use Rattle.mta_worker.proofs.jobs.deal.Given as goal

abbrev pub invariant-loop-station : goal.invariant-loop-station
invariant-loop-station g l = record {
  ready : IsReady (lock_of l.shared) l.main;
  parts_left : l.main.parts + vec_len l.jobs ≡ l.fn.main.parts;
  same : (l.main.seen ≡ l.fn.main.seen) × (l.main.own ≡ l.fn.main.own) × (l.main.base ≡ l.fn.main.base)
      × (l.main.from ≡ l.fn.main.from);
  order : l.stations.items ++ reverse (map station_of l.jobs.items) ≡ l.fn.stations.items;
  enough : (vec_len l.stations < l.main.parts) × (vec_len l.stations + vec_len l.jobs ≤ vec_capacity l.jobs);
  kept : vec_len l.fn.stations ≤ vec_capacity l.stations;
  count : vec_len l.stations + vec_len l.jobs ≡ vec_len l.fn.stations;
  dealt : All (IsDealt (lock_of l.shared) l.fn.main) l.jobs.items;
  ones : All (IsDealtOne (lock_of l.shared)) l.jobs.items;
}

abbrev pub decreases-loop-station : goal.decreases-loop-station
decreases-loop-station g l = vec_len l.stations
