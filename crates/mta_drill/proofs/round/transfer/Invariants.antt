use Rattle.std.proofs.Common.{◌≤◌}
use Rattle.mta_drill.specs.Calls.{HasNothing, HasTaken}
use Rattle.mta_drill.specs.Rounds.{round_size}
use Rattle.mta_drill.proofs.Meeting.{IsBetween}
use Rattle.mta_drill.proofs.round.transfer.Given as goal

abbrev pub invariant-loop-sessions : goal.invariant-loop-sessions
invariant-loop-sessions l =
    l.count ≤ round_size → HasTaken l.before l.count l.fn.first → HasNothing l.before l.fn.second →
    IsBetween l.before l.count l._sessions l.first l.second l.breaks
