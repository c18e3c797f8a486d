use Rattle.std.proofs.Common.{◌≡◌, ℕ, arith, subst}
use Rattle.std.proofs.lemmas.Result.{on_ok_weaker}
use Rattle.mta_drill.specs.Calls.{HasTaken}
use Rattle.mta_drill.proofs.Calling.{taken_still}
use Rattle.mta_drill.proofs.round.accept_all.Goals as goal

pub loop-place-init : goal.loop-place-init
loop-place-init c = λ few h. h

pub loop-place-preserved : goal.loop-place-preserved
loop-place-preserved c = λ few h.
    c.in_ok-accept.ensures c.args.before c.loop-place.place (omega (arith, few, c.loop-place-test.true)) (omega arith)
    (c.loop-place.invariant few h)

pub returns : goal.returns
returns c = λ few h.
    let e : c.loop-place.place ≡ c.args.count = omega arith in
    let all =
    subst (λ (n : ℕ). HasTaken c.args.before n c.loop-place.spool) e (c.loop-place.invariant few h) in
    on_ok_weaker c.settle.result
    (λ settled. taken_still c.args.before c.args.count c.loop-place.spool c.settle.new.spool all settled)
    (c.settle.ensures all.works)
