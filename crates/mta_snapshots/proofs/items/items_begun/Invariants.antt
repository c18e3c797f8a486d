use Rattle.std.specs.Vec.Iter.{into_iter_items, into_iter_len}
use Rattle.mta_snapshots.proofs.Listing.{AreComingIn}
use Rattle.mta_snapshots.proofs.items.items_begun.Given as goal

abbrev pub invariant-loop-recorded : goal.invariant-loop-recorded
invariant-loop-recorded l = AreComingIn l.moment l.fn.records.items l.items.items (into_iter_items l.rest)

abbrev pub decreases-loop-recorded : goal.decreases-loop-recorded
decreases-loop-recorded l = into_iter_len l.rest
