use Rattle.std.proofs.Common.{◌⊎◌}
use Rattle.mta_session.specs.Rank.{calls_left}
use Rattle.mta_session_run.specs.Running.{IsCalled}
use Rattle.mta_drill_stage_laws.specs.World.{World}
use Rattle.mta_drill.specs.Acts.{IsSide}
use Rattle.mta_drill.specs.Runs.{GaveUp, HasRun}
use Rattle.mta_drill.specs.Sides.{MayWait}
use Rattle.mta_drill.proofs.session.run.Given as goal

abbrev pub invariant-loop-next : goal.invariant-loop-next
invariant-loop-next l = record {
  called : IsCalled l.caller.session l.action;
  waits : MayWait l.listener.session l.listening;
  ran : (w : World) → IsSide l.fn.caller l.fn.first l.fn.calls l.fn.breaks w.calling w.link →
      IsSide l.fn.listener l.fn.second l.fn.listens l.fn.breaks w.listening w.link →
      HasRun l.caller l.listener l.first l.second l.action l.listening l.breaks w ⊎ GaveUp w;
}

abbrev pub decreases-loop-next : goal.decreases-loop-next
decreases-loop-next l = calls_left l.caller.session
