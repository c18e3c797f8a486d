use Rattle.std.proofs.Common.{Err, List, Result, length, ap, arith, refl, subst, sym, ◌+◌, ◌∙◌, ℕ}
use Rattle.std.proofs.lemmas.Result.{err_from_is_err_and}
use Rattle.mta_follow_units.specs.Feed.{Feed}
use Rattle.mta_follow_units.specs.Units.{done_unit}
use Rattle.mta_follow_run.specs.Pushing.{Pushes, PushesOne}
use Rattle.mta_follow_run.specs.Taking.{StandsBehind}
use Rattle.mta_follow_run.specs.declared.stop.Stop.{Stop}
use Rattle.mta_follow_run.proofs.Carrying.{cut_put, whole_put}
use Rattle.mta_follow_run.proofs.Pushing.{at_within, behind_at, pushes_done, pushes_ended, pushes_undone, pushing_more}
use Rattle.mta_follow_run.proofs.Pushing.{pushing_none}
use Rattle.mta_follow_run.proofs.push.push.Goals as goal

pub loop-body-init : goal.loop-body-init
loop-body-init g c = (
  pushing_none g.L.Link.model c.args.bodies.now c.args.link.now c.new-reader.result
      (ap (λ (f : Feed). f.at) c.new-reader.ensures) (ap (λ (f : Feed). f.left) c.new-reader.ensures),
  refl,
)

pub overflow_add-number : goal.overflow_add-number
overflow_add-number g c =
    omega (arith, c.loop-body.invariant.1, c.loop-body-test.true)

pub push_record-requires-clause-none : goal.push_record-requires-clause-none
push_record-requires-clause-none g c = c.loop-body.invariant.0.feed_left

pub push_record-requires-clause-short : goal.push_record-requires-clause-short
push_record-requires-clause-short g c =
    let short = at_within c.loop-body.body-index c.args.bodies.now c.body-item.result c.requires c.loop-body-test.true
    c.body-item.is in
    omega (arith, short, ap length c.as_slice.ensures)

pub returns-in_err-push_record : goal.returns-in_err-push_record
returns-in_err-push_record g c =
    let p = err_from_is_err_and c.from_residual.result c.from_residual.ensures.1 in
    subst (Pushes g.L.Link.model c.args.bodies.now c.args.link.now c.push_record.new.link) (sym p.1)
    (pushes_ended g.L.Link.model c.args.bodies.now c.args.link.now c.loop-body.link c.loop-body.reader
    c.loop-body.number
    c.loop-body.invariant.0 c.body-item.result
    (subst (λ (n : ℕ). StandsBehind n c.body-item.result c.args.bodies.now) (sym c.loop-body.invariant.1)
    (behind_at c.loop-body.body-index c.args.bodies.now c.body-item.result c.loop-body-test.true c.body-item.is))
    c.push_record.new.link c.push_record.new.reader p.0
    (subst (λ (r : Result (Unit {0}) Stop). PushesOne g.L.Link.model (c.loop-body.number + 1) c.body-item.result
    c.loop-body.link c.loop-body.reader c.push_record.new.link c.push_record.new.reader r)
    (c.in_err-push_record.was ∙ ap Err (sym p.2))
    (subst (λ (b : List ℕ). PushesOne g.L.Link.model (c.loop-body.number + 1) b c.loop-body.link c.loop-body.reader
    c.push_record.new.link c.push_record.new.reader c.push_record.result) c.as_slice.ensures c.push_record.ensures)))

pub loop-body-preserved : goal.loop-body-preserved
loop-body-preserved g c = (
  pushing_more g.L.Link.model c.args.bodies.now c.args.link.now c.loop-body.link c.loop-body.reader c.loop-body.number
      c.loop-body.invariant.0 c.body-item.result
      (subst (λ (n : ℕ). StandsBehind n c.body-item.result c.args.bodies.now) (sym c.loop-body.invariant.1)
      (behind_at c.loop-body.body-index c.args.bodies.now c.body-item.result c.loop-body-test.true c.body-item.is))
      c.push_record.new.link c.push_record.new.reader
      (subst (λ (r : Result (Unit {0}) Stop). PushesOne g.L.Link.model (c.loop-body.number + 1) c.body-item.result
      c.loop-body.link c.loop-body.reader c.push_record.new.link c.push_record.new.reader r) c.in_ok-push_record.was
      (subst (λ (b : List ℕ). PushesOne g.L.Link.model (c.loop-body.number + 1) b c.loop-body.link c.loop-body.reader
      c.push_record.new.link c.push_record.new.reader c.push_record.result) c.as_slice.ensures c.push_record.ensures)),
  ap (λ (n : ℕ). n + 1) c.loop-body.invariant.1,
)

pub returns-then-is_err : goal.returns-then-is_err
returns-then-is_err g c =
    let k = cut_put g.L.Link.model (done_unit c.loop-body.number) c.loop-body.link c.put_number.new.link
    c.put_number.result (sym c.is_err.ensures.value ∙ c.if-is_err.true) c.put_number.ensures in
    pushes_undone g.L.Link.model c.args.bodies.now c.args.link.now c.loop-body.link c.loop-body.reader
    c.loop-body.number
    c.loop-body.invariant.0
    (omega (arith, c.loop-body.invariant.1, c.loop-body.auto.body-index-end, c.loop-body-test.false))
    c.put_number.new.link k.piece k.front k.talks k.rose

pub returns : goal.returns
returns g c =
    pushes_done g.L.Link.model c.args.bodies.now c.args.link.now c.loop-body.link c.loop-body.reader c.loop-body.number
    c.loop-body.invariant.0
    (omega (arith, c.loop-body.invariant.1, c.loop-body.auto.body-index-end, c.loop-body-test.false))
    c.put_number.new.link
    (whole_put g.L.Link.model (done_unit c.loop-body.number) c.loop-body.link c.put_number.new.link
    c.put_number.result (sym c.is_err.ensures.value ∙ c.if-is_err.false) c.put_number.ensures)
