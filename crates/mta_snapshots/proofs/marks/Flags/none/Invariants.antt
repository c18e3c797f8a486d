use Rattle.std.proofs.Common.{◌≡◌, false}
use Rattle.std.specs.Prelude.{replicate}
use Rattle.mta_snapshots.proofs.marks.Flags.none.Given as goal

abbrev pub invariant-loop : goal.invariant-loop
invariant-loop l = l.inner.items ≡ replicate l.counter false
