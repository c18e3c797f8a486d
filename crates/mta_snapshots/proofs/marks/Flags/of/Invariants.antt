use Rattle.std.proofs.Common.{◌≡◌, map, take}
use Rattle.mta_snapshots.specs.Marks.{is_waiting}
use Rattle.mta_snapshots.proofs.marks.Flags.of.Given as goal

abbrev pub invariant-loop-status : goal.invariant-loop-status
invariant-loop-status l = l.inner.items ≡ map is_waiting (take l.status-index l.statuses)
