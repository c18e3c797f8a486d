use Rattle.std.proofs.Common.{sym, ◌∙◌, arith}
use Rattle.mta_machine.proofs.Settled.{settled_before, still_settled}
use Rattle.mta_machine.proofs.item.known_still.Goals as goal

pub returns-then-is_pending_status : goal.returns-then-is_pending_status
returns-then-is_pending_status c = λ statuses known.
    let least = c.min.ensures in
    settled_before statuses c.args.place c.args.status.now c.args.settled c.min.result known (omega (arith, least))
    (omega (arith, least))

pub returns-else-is_pending_status : goal.returns-else-is_pending_status
returns-else-is_pending_status c = λ statuses known.
    still_settled statuses c.args.place c.args.status.now c.args.settled known
    (sym c.is_pending_status.ensures ∙ c.if-is_pending_status.false)
