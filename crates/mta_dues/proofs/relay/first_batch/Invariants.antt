use Rattle.std.proofs.Common.{◌-◌, length}
use Rattle.mta_state.specs.Kept.{state_of}
use Rattle.mta_dues.specs.Answers.{NoneRelayedBefore}
use Rattle.mta_dues.proofs.relay.first_batch.Given as goal

abbrev pub invariant-loop-place : goal.invariant-loop-place
invariant-loop-place g l = record {
  none : NoneRelayedBefore (state_of l.kept) l.peer l.moment l.queue l.from;
}

abbrev pub decreases-loop-place : goal.decreases-loop-place
decreases-loop-place g l = length l.queue - l.from
