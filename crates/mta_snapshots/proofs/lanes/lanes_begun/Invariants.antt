use Rattle.std.specs.Vec.Iter.{into_iter_items, into_iter_len}
use Rattle.mta_snapshots.proofs.Listing.{AreComing}
use Rattle.mta_snapshots.proofs.lanes.lanes_begun.Given as goal

abbrev pub invariant-loop-recorded : goal.invariant-loop-recorded
invariant-loop-recorded l = AreComing l.fn.records.items l.lanes.items (into_iter_items l.rest)

abbrev pub decreases-loop-recorded : goal.decreases-loop-recorded
decreases-loop-recorded l = into_iter_len l.rest
