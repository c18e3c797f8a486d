use Rattle.std.proofs.Common.{◌≡◌, ◌-◌, drop, length}
use Rattle.std.specs.Prelude.{◌↔◌}
use Rattle.mta_histories.specs.Sound.{AreApart}
use Rattle.mta_snapshots.proofs.names.are_apart.Given as goal

abbrev pub invariant-loop-place : goal.invariant-loop-place
invariant-loop-place l = record {
  count : l.count ≡ length l.lanes;
  same : AreApart l.lanes ↔ AreApart (drop l.place l.lanes);
}

abbrev pub decreases-loop-place : goal.decreases-loop-place
decreases-loop-place l = l.count - l.place
