use Rattle.std.proofs.Common.{take}
use Rattle.mta_state.specs.Kept.{state_of}
use Rattle.mta_replay.specs.Starting.{AreToRelay}
use Rattle.mta_replay.proofs.start.all_relay.Given as goal

abbrev pub invariant-loop-recipient : goal.invariant-loop-recipient
invariant-loop-recipient g l =
    AreToRelay (state_of l.kept) l.peer l.moment l.number (take l.recipient-index l.recipients)
