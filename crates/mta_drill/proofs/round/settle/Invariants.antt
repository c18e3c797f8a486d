use Rattle.mta_drill_answer_laws.specs.Answers.{Works}
use Rattle.mta_drill.specs.Calls.{HasTurned}
use Rattle.mta_drill.proofs.round.settle.Given as goal

abbrev pub invariant-loop : goal.invariant-loop
invariant-loop l = Works l.fn.spool → HasTurned l.fn.spool l.spool
