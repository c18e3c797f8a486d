use Rattle.std.proofs.Common.{drop}
use Rattle.std.specs.Prelude.{◌↔◌}
use Rattle.std.specs.List.{AllByRecursion}
use Rattle.mta_histories.specs.Sound.{IsInTime}
use Rattle.mta_snapshots.proofs.statuses.are_in_time.Given as goal

abbrev pub invariant-loop-status : goal.invariant-loop-status
invariant-loop-status l =
    AllByRecursion (IsInTime l.moment) l.statuses
    ↔ AllByRecursion (IsInTime l.moment) (drop l.status-index l.statuses)
