use Rattle.std.proofs.Common.{◌-◌}
use Rattle.mta_state.specs.Kept.{state_of}
use Rattle.mta_dues.specs.Answers.{NoneDueUpTo}
use Rattle.mta_dues.proofs.scan.first_of.Given as goal

abbrev pub invariant-loop-recipient : goal.invariant-loop-recipient
invariant-loop-recipient g l = record {
  none : NoneDueUpTo (state_of l.kept) l.number l.recipient l.moment;
}

abbrev pub decreases-loop-recipient : goal.decreases-loop-recipient
decreases-loop-recipient g l = l.count - l.recipient
