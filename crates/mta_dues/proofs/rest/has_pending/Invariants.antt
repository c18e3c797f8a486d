use Rattle.std.proofs.Common.{◌≤◌, ◌-◌}
use Rattle.mta_dues.specs.Index.{NonePendingUpTo}
use Rattle.mta_dues.proofs.rest.has_pending.Given as goal

abbrev pub invariant-loop-recipient : goal.invariant-loop-recipient
invariant-loop-recipient l = record {
  within : l.recipient ≤ l.count;
  none : NonePendingUpTo l.item l.recipient;
}

abbrev pub decreases-loop-recipient : goal.decreases-loop-recipient
decreases-loop-recipient l = l.count - l.recipient
