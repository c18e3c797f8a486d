use Rattle.std.proofs.Common.{IfOk, ap, subst}
use Rattle.mta_histories.specs.Lanes.{State}
use Rattle.mta_replay.specs.Answers.{IsNextOf}
use Rattle.mta_spool.specs.Shown.{Shown}
use Rattle.mta_spool.proofs.spool.Spool.find_due.Goals as goal

pub returns-clause-next : goal.returns-clause-next
returns-clause-next g c =
    subst (λ (s : State). IfOk c.due_step.result (IsNextOf s c.args.moment))
    (ap (λ (v : Shown _ _). v.current) c.self.view_is) c.due_step.ensures.next
