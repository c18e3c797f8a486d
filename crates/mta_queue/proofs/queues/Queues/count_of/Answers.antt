use Rattle.std.proofs.Common.{◌<◌, ◌^◌, length, subst}
use Rattle.mta_queue.specs.Marks.{row_of}
use Rattle.mta_queue.specs.Queues.{QueuesValue}
use Rattle.mta_queue.proofs.queues.Queues.count_of.Goals as goal

pub returns-in-None-clause-few : goal.returns-in-None-clause-few
returns-in-None-clause-few c =
    subst (λ (v : QueuesValue). length (row_of v.rows c.args.item) < 2 ^ 32) c.self.view_is
    (c.self.invariant.few c.args.item)

pub returns-in-Some-clause-few : goal.returns-in-Some-clause-few
returns-in-Some-clause-few c =
    subst (λ (v : QueuesValue). length (row_of v.rows c.args.item) < 2 ^ 32) c.self.view_is
    (c.self.invariant.few c.args.item)
