use Rattle.std.proofs.Common.{drop}
use Rattle.mta_snapshots.proofs.Taking.{AreTaking}
use Rattle.mta_snapshots.proofs.once.take_all.Given as goal

abbrev pub invariant-loop-recipient : goal.invariant-loop-recipient
invariant-loop-recipient l = AreTaking l.fn.marks l.marks l.item l.recipients (drop l.recipient-index l.recipients)
