use Rattle.std.proofs.lemmas.Result.{err_from_is_err_and}
use Rattle.mta_follow_run.proofs.Getting.{fed_on, fed_up, got_cut, got_told, kept_on}
use Rattle.mta_follow_run.proofs.get.get_unit.Goals as goal

pub returns-in_err-fill-clause-kept : goal.returns-in_err-fill-clause-kept
returns-in_err-fill-clause-kept g c =
    let p = err_from_is_err_and c.from_residual.result c.from_residual.ensures.1 in
    rw p.1
    (kept_on g.L.Link.model c.args.link.now c.args.reader.now c.loop-due.link c.loop-due.reader c.fill.new.link
    c.fill.new.reader c.loop-due.invariant c.in_err-fill.ensures.err.0 c.in_err-fill.ensures.err.1)

pub returns-then-not-branch-clause-got : goal.returns-then-not-branch-clause-got
returns-then-not-branch-clause-got g c =
    got_cut g.L.Link.model c.args.due c.args.link.now c.args.reader.now c.loop-due.link c.loop-due.reader
    c.fill.new.link c.fill.new.reader c.in_ok-fill.field-0 c.loop-due.invariant c.if-not-branch.true
    c.in_ok-fill.ensures.moved (c.is_cut.ensures.cut c.loop-due-test.true)

pub loop-due-smaller : goal.loop-due-smaller
loop-due-smaller g c =
    fed_up g.L.Link.model c.args.due c.loop-due.link c.loop-due.reader c.fill.new.link c.fill.new.reader
    c.in_ok-fill.field-0 c.if-not-branch.false c.in_ok-fill.ensures.moved (c.is_cut.ensures.cut c.loop-due-test.true)

pub loop-due-preserved : goal.loop-due-preserved
loop-due-preserved g c =
    fed_on g.L.Link.model c.args.link.now c.args.reader.now c.loop-due.link c.loop-due.reader c.fill.new.link
    c.fill.new.reader c.in_ok-fill.field-0 c.loop-due.invariant c.if-not-branch.false c.in_ok-fill.ensures.moved

pub returns-clause-got : goal.returns-clause-got
returns-clause-got g c =
    got_told g.L.Link.model c.args.due c.args.link.now c.args.reader.now c.loop-due.link c.loop-due.reader
    c.loop-due.invariant (c.is_cut.ensures.told c.loop-due-test.false)
