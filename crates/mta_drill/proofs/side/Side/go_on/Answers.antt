use Rattle.std.proofs.Common.{subst, sym}
use Rattle.mta_drill.specs.declared.side.Rest.{Rest}
use Rattle.mta_drill.specs.Acts.{HasCome, RestsAt}
use Rattle.mta_drill.proofs.Going.{over_still}
use Rattle.mta_drill.proofs.side.Side.go_on.Goals as goal

pub returns-in-Over-clause-came : goal.returns-in-Over-clause-came
returns-in-Over-clause-came c = λ p l at.
    let x = c.args.self.now in
    let s = c.args.spool.now in
    let b = c.args.breaks.now in
    let f = c.args.other.now.feed in
    subst (λ (r : Rest). HasCome p l r x s b f f) (sym c.in-Over.is)
    (over_still x s b p l f c.in-Over.is_closed (subst (λ (r : Rest). RestsAt r x s b p l) c.in-Over.is at))
