use Rattle.std.proofs.Common.{IfOk, ℕ, subst}
use Rattle.mta_histories.specs.Lanes.{State}
use Rattle.mta_replay.specs.Answers.{IsBatchOf}
use Rattle.mta_spool.proofs.spool.Spool.batch_for.Goals as goal

pub returns-clause-batch : goal.returns-clause-batch
returns-clause-batch g c =
    let m = c.step_moment-moment.ensures.moment in
    let rest = c.step_moment-moment.ensures.rest in
    record {
      told = m.told;
      tells = m.tells;
      at = subst
          (λ (n : ℕ). IfOk c.find_batch.result (IsBatchOf c.args.self.now.current c.args.peer.now n)) m.at
          (subst
          (λ (s : State). IfOk c.find_batch.result (IsBatchOf s c.args.peer.now c.step_moment-moment.result)) rest.1
          c.find_batch.ensures.batch);
    }
