use Rattle.std.proofs.Common.{rules, subst, sym, ◌∙◌}
use Rattle.std.proofs.lemmas.Result.{err_from_is_err_and}
use Rattle.mta_follow_run.specs.Talks.{HasPut}
use Rattle.mta_follow_run.proofs.Carrying.{none_of, part_front, part_more, part_none, part_whole}
use Rattle.mta_follow_run.proofs.put.put_all.Goals as goal

pub loop-rest-init : goal.loop-rest-init
loop-rest-init g c = part_none g.L.Link.model c.args.bytes.now c.args.link.now

pub loop-rest-preserved : goal.loop-rest-preserved
loop-rest-preserved g c =
    part_more g.L.Link.model c.args.bytes.now c.loop-rest.rest.now c.split_at.result.1.now c.in_ok-count.count _ _ _
    (search rules) c.loop-rest.invariant c.in_ok-count.ensures.put c.put.ensures.cause.later

pub returns-in_err-count : goal.returns-in_err-count
returns-in_err-count g c =
    let p = err_from_is_err_and c.from_residual.result c.from_residual.ensures.1 in
    subst (HasPut g.L.Link.model c.args.bytes.now c.args.link.now c.put.new.self) (sym p.1)
    (part_front g.L.Link.model c.args.bytes.now c.loop-rest.rest.now c.args.link.now c.loop-rest.link c.put.new.self
    p.0 c.loop-rest.invariant c.in_err-count.ensures.kept c.put.ensures.cause.later
    c.in_err-count.ensures.cause.failed)

pub returns : goal.returns
returns g c =
    part_whole g.L.Link.model c.args.bytes.now c.loop-rest.rest.now c.args.link.now c.loop-rest.link
    (none_of c.loop-rest.rest.now (sym c.is_empty.ensures ∙ c.loop-rest-test.false)) c.loop-rest.invariant
