use Rattle.std.proofs.Common.{◌≡◌, map, take}
use Rattle.mta_snapshots.specs.Marks.{marks_in}
use Rattle.mta_snapshots.proofs.marks.Marks.of.Given as goal

abbrev pub invariant-loop-item : goal.invariant-loop-item
invariant-loop-item l = l.inner.items ≡ map marks_in (take l.item-index l.items)
