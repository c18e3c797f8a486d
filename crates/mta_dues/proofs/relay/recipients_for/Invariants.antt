use Rattle.std.proofs.Common.{◌≤◌, ◌-◌}
use Rattle.mta_state.specs.Kept.{state_of}
use Rattle.mta_dues.specs.Answers.{AreRelayedUpTo}
use Rattle.mta_dues.proofs.relay.recipients_for.Given as goal

abbrev pub invariant-loop-recipient : goal.invariant-loop-recipient
invariant-loop-recipient g l = record {
  within : l.recipient ≤ l.count;
  are : AreRelayedUpTo (state_of l.kept) l.peer l.moment l.number l.recipient l.recipients.items;
}

abbrev pub decreases-loop-recipient : goal.decreases-loop-recipient
decreases-loop-recipient g l = l.count - l.recipient
