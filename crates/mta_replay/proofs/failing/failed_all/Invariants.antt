use Rattle.std.proofs.Common.{take}
use Rattle.mta_state.specs.Parts.{machine_of}
use Rattle.mta_replay.specs.Failures.{AreFailed, failure_of}
use Rattle.mta_replay.proofs.failing.failed_all.Given as goal

abbrev pub invariant-loop-recipient : goal.invariant-loop-recipient
invariant-loop-recipient g l =
    AreFailed (machine_of l.kept.parts) l.number (take l.recipient-index l.recipients) (failure_of l.failure)
    l.moment l.count l.settlements.items
