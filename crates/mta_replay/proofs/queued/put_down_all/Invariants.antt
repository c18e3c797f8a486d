use Rattle.std.proofs.Common.{◌≤◌, ◌-◌}
use Rattle.mta_state.specs.Kept.{state_of}
use Rattle.mta_replay.proofs.PutDown.{IsPutUpTo}
use Rattle.mta_replay.proofs.queued.put_down_all.Given as goal

abbrev pub invariant-loop-recipient : goal.invariant-loop-recipient
invariant-loop-recipient l = record {
  within : l.recipient ≤ l.count;
  put : IsPutUpTo (state_of l.kept) l.item l.recipient l.fn.queues l.queues;
}

abbrev pub decreases-loop-recipient : goal.decreases-loop-recipient
decreases-loop-recipient l = l.count - l.recipient
