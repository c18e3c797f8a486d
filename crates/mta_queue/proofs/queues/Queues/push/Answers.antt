use Rattle.std.proofs.Common.{List, sym, subst}
use Rattle.mta_queue.specs.declared.mark.Mark.{Mark}
use Rattle.mta_queue.specs.Queues.{IsWholeOf}
use Rattle.mta_queue.proofs.Counted.{whole_pushed}
use Rattle.mta_queue.proofs.queues.Queues.push.Goals as goal

pub invariant_of-self : goal.invariant_of-self
invariant_of-self c =
    subst (λ (rows : List (List Mark)). IsWholeOf c.self.inside.peers.queues rows) (sym c.push_reserved.ensures.items)
    (whole_pushed c.self.inside.peers.queues c.self.inside.rows.items c.args.row c.self.invariant c.requires.few
    c.requires.idle)
