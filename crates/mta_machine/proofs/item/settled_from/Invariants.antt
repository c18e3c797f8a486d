use Rattle.std.proofs.Common.{◌-◌, length}
use Rattle.mta_machine.specs.Items.{AreSettled}
use Rattle.mta_machine.proofs.item.settled_from.Given as goal

abbrev pub invariant-loop-settled : goal.invariant-loop-settled
invariant-loop-settled l = AreSettled l.statuses l.settled

abbrev pub decreases-loop-settled : goal.decreases-loop-settled
decreases-loop-settled l = length l.statuses - l.settled
