use Rattle.std.proofs.Common.{◌≤◌}
use Rattle.mta_session.specs.Rank.{calls_left}
use Rattle.mta_session_run.specs.Running.{IsRun, IsCalled}
use Rattle.mta_session_run.proofs.run.carry_on.Given as goal

abbrev pub invariant-loop-came : goal.invariant-loop-came
invariant-loop-came g l = record {
  run : IsRun g.L.Link.model l.fn.session l.fn.action l.fn.link l.fn.frames l.session l.wanted l.link l.frames;
  called : IsCalled l.session l.wanted;
  left : calls_left l.session ≤ calls_left l.fn.session;
  later : g.L.Link.model.faults l.fn.link ≤ g.L.Link.model.faults l.link;
}

abbrev pub decreases-loop-came : goal.decreases-loop-came
decreases-loop-came g l = calls_left l.session
