use Rattle.std.proofs.Common.{◌≤◌}
use Rattle.mta_drill.specs.Calls.{HasTaken}
use Rattle.mta_drill.specs.Rounds.{round_size}
use Rattle.mta_drill.proofs.round.accept_all.Given as goal

abbrev pub invariant-loop-place : goal.invariant-loop-place
invariant-loop-place l =
    l.count ≤ round_size → HasTaken l.before 0 l.fn.spool → HasTaken l.before l.place l.spool
