use Rattle.std.proofs.Common.{ℕ, sym, subst}
use Rattle.mta_dues.specs.Looked.{AreIdleUpTo}
use Rattle.mta_dues.proofs.Waiting.{idle_max, idle_settled}
use Rattle.mta_dues.proofs.scan.known_idle.Goals as goal

pub returns : goal.returns
returns c = λ format text items is indexed.
    let item = c.args.item.now in
    subst (λ (n : ℕ). AreIdleUpTo format text item n c.args.moment) (sym c.max.ensures)
    (idle_max format text item c.idle_up_to.result c.settled-settled.result c.args.moment
    (c.idle_up_to.ensures format text items item is indexed)
    (idle_settled format text item c.settled-settled.result c.args.moment c.settled-settled.ensures))
