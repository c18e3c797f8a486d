use Rattle.std.proofs.Common.{◌≤◌}
use Rattle.mta_session.specs.Rank.{calls_left}
use Rattle.mta_session_run.specs.Running.{IsCalled}
use Rattle.mta_shared.specs.Passes.{lock_of, IsReady, Worked}
use Rattle.mta_units.specs.Feed.{no_feed}
use Rattle.mta_worker.proofs.Going.{Gone}
use Rattle.mta_worker.proofs.session.run_session.Given as goal

abbrev pub invariant-loop-came : goal.invariant-loop-came
invariant-loop-came g l = record {
  gone : Gone g.D.Disk.model g.C.Clock.model g.L.Link.model
      (record {
        session = l.fn.session;
        action = l.fn.first;
        link = l.fn.link;
        feed = no_feed;
        pass = l.fn.pass;
        halt = l.fn.first_halt;
      })
      (record {
        session = l.session;
        action = l.action;
        link = l.link;
        feed = l.frames;
        pass = l.pass;
        halt = l.halt;
      });
  ready : IsReady (lock_of l.shared) l.pass;
  worked : Worked l.fn.pass l.pass;
  called : IsCalled l.session l.action;
  later : g.L.Link.model.faults l.fn.link ≤ g.L.Link.model.faults l.link;
}

abbrev pub decreases-loop-came : goal.decreases-loop-came
decreases-loop-came g l = calls_left l.session
