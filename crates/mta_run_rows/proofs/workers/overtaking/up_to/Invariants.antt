use Rattle.mta_session.specs.Rank.{calls_left}
use Rattle.mta_session_run.specs.Running.{IsCalled}
use Rattle.mta_run_rows.proofs.workers.overtaking.up_to.Given as goal

abbrev pub invariant-loop-end : goal.invariant-loop-end
invariant-loop-end g l = IsCalled l.session l.action

abbrev pub decreases-loop-end : goal.decreases-loop-end
decreases-loop-end g l = calls_left l.session
