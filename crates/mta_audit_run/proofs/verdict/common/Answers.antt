use Rattle.std.proofs.Common.{◌≡◌, ℕ, take, sym, subst, ◌∙◌, arith}
use Rattle.mta_audit_run.proofs.Halves.{common_at, common_all, front-on}
use Rattle.mta_audit_run.proofs.verdict.common.Goals as goal

pub returns-then-not-same-clause-exact : goal.returns-then-not-same-clause-exact
returns-then-not-same-clause-exact c =
    sym (common_at c.args.one.now c.args.other.now c.loop-place.place c.index-one-place.result
    c.index-other-place.result
    c.loop-place.invariant (omega (arith, c.loop-place-test.true, c.min-count.ensures))
    (omega (arith, c.loop-place-test.true, c.min-count.ensures)) c.index-one-place.is c.index-other-place.is
    (sym c.same.ensures ∙ c.if-not-same.true))

pub loop-place-preserved : goal.loop-place-preserved
loop-place-preserved c =
    front-on c.args.one.now c.args.other.now c.loop-place.place c.index-one-place.result c.index-other-place.result
    c.loop-place.invariant (omega (arith, c.loop-place-test.true, c.min-count.ensures))
    (omega (arith, c.loop-place-test.true, c.min-count.ensures)) c.index-one-place.is c.index-other-place.is
    (sym c.same.ensures ∙ c.if-not-same.false)

pub returns-clause-exact : goal.returns-clause-exact
returns-clause-exact c =
    let whole : c.loop-place.place ≡ c.min-count.result =
    omega (arith, c.loop-place-test.false, c.loop-place.auto.place-end) in
    sym (common_all c.args.one.now c.args.other.now c.min-count.result
    (subst (λ (k : ℕ). take k c.args.one.now ≡ take k c.args.other.now) whole c.loop-place.invariant)
    c.min-count.ensures)
