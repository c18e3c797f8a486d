use Rattle.std.proofs.Common.{IfOk, ap, subst}
use Rattle.mta_histories.specs.Lanes.{State}
use Rattle.mta_replay.specs.Answers.{IsBatchOf}
use Rattle.mta_spool.specs.Shown.{Shown}
use Rattle.mta_spool.proofs.spool.Spool.find_batch.Goals as goal

pub returns-clause-batch : goal.returns-clause-batch
returns-clause-batch g c =
    subst (λ (s : State). IfOk c.batch_for.result (IsBatchOf s c.args.peer.now c.args.moment))
    (ap (λ (v : Shown _ _). v.current) c.self.view_is) c.batch_for.ensures.batch
