use Rattle.std.proofs.Common.{ℕ, sym, subst}
use Rattle.mta_dues.specs.Looked.{AreIdleUpTo}
use Rattle.mta_dues.proofs.Indexed.{looked_up_to_so}
use Rattle.mta_dues.proofs.Waiting.{idle_at_0}
use Rattle.mta_dues.proofs.index.Index.idle_up_to.Goals as goal

pub returns-in-None : goal.returns-in-None
returns-in-None c = λ format text items item item_is indexed. idle_at_0 format text item c.args.moment

pub returns-in-Some : goal.returns-in-Some
returns-in-Some c = λ format text items item item_is indexed.
    subst (λ (n : ℕ). AreIdleUpTo format text item n c.args.moment) (sym c.up_to.ensures)
    (looked_up_to_so format text items c.args.self.now c.in-Some.looked c.args.number c.args.moment item c.in-Some.is
    item_is indexed)
