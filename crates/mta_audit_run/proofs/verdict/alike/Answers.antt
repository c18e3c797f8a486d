use Rattle.mta_audit_run.proofs.Halves.{alike_short, alike_long}
use Rattle.mta_audit_run.proofs.verdict.alike.Goals as goal

pub returns-then-count-sent-clause-exact : goal.returns-then-count-sent-clause-exact
returns-then-count-sent-clause-exact c =
    alike_short c.args.half.now.sent c.args.half.now.ending c.args.half.now.completed c.as_slice-sent.result.now
    c.as_slice-completed.result.now c.common-count.result c.as_slice-sent.ensures c.as_slice-completed.ensures
    c.common-count.ensures.exact c.if-count-sent.true

pub returns-clause-exact : goal.returns-clause-exact
returns-clause-exact c =
    alike_long c.args.half.now.sent c.args.half.now.ending c.args.half.now.completed c.as_slice-sent.result.now
    c.as_slice.result.now c.as_slice-completed.result.now c.common-count.result c.common.result c.as_slice-sent.ensures
    c.as_slice.ensures c.as_slice-completed.ensures c.common-count.ensures.exact c.if-count-sent.false
    c.common.ensures.exact
