use Rattle.std.proofs.Common.{◌≡◌, suc, ◌++◌, drop}
use Rattle.mta_histories.specs.Compact.{recorded_from}
use Rattle.mta_snapshots.proofs.recorded.items_of.Given as goal

abbrev pub invariant-loop-place : goal.invariant-loop-place
invariant-loop-place l =
    l.records.items ++ recorded_from l.lines (suc l.place) (drop l.place l.items) ≡ recorded_from l.lines 1 l.items
