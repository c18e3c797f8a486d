use Rattle.std.proofs.Common.{drop}
use Rattle.std.specs.Vec.Iter.{into_iter_items}
use Rattle.mta_snapshots.proofs.Spreading.{IsSpreading}
use Rattle.mta_snapshots.proofs.statuses.spread.Given as goal

abbrev pub invariant-loop-recipient : goal.invariant-loop-recipient
invariant-loop-recipient l =
    IsSpreading l.recipients l.fn.codes.items l.statuses.items (drop l.recipient-index l.recipients)
    (into_iter_items l.rest)
