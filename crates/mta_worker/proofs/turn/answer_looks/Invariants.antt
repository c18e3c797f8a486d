use Rattle.std.proofs.Common.{◌≤◌}
use Rattle.mta_session.specs.Rank.{calls_left}
use Rattle.mta_session_run.specs.Running.{IsCalled}
use Rattle.mta_worker.specs.Turns.{HasLooked}
use Rattle.mta_worker.proofs.turn.answer_looks.Given as goal

abbrev pub invariant-loop-action : goal.invariant-loop-action
invariant-loop-action g l = record {
  looked : HasLooked g.D.Disk.model g.C.Clock.model l.spool l.fn.session l.fn.first l.fn.halt l.session l.action l.halt;
  called : IsCalled l.session l.action;
  left : calls_left l.session ≤ calls_left l.fn.session;
}

abbrev pub decreases-loop-action : goal.decreases-loop-action
decreases-loop-action g l = calls_left l.session
