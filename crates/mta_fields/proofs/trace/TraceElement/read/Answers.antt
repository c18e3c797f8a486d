use Rattle.mta_ber.specs.Seen.{view}
use Rattle.mta_names.proofs.Tools.{fails_as, ok_as}
use Rattle.mta_fields.specs.TraceElements.{trace_in}
use Rattle.mta_fields.proofs.TraceLaws.{trace_sound, trace_full, trace_is}
use Rattle.mta_fields.proofs.trace.TraceElement.read.Goals as goal

pub invariant_of-result : goal.invariant_of-result
invariant_of-result c =
    let v = c.args.whole.now in
    trace_is v.depth v.tag v.content.now c.in-Ok.fields (trace_sound c.in-Ok.fields (view v) v.bytes c.in-Ok.ensures)

pub returns-in-Ok-clause-found : goal.returns-in-Ok-clause-found
returns-in-Ok-clause-found c = let v = c.args.whole.now in trace_sound c.in-Ok.fields (view v) v.bytes c.in-Ok.ensures

pub returns-in-Ok-clause-only : goal.returns-in-Ok-clause-only
returns-in-Ok-clause-only c = λ n h. let v = c.args.whole.now in
    ok_as (trace_in (view v)) c.in-Ok.fields n c.in-Ok.ensures (trace_full n (view v) h)

pub returns-in-Err-clause-only : goal.returns-in-Err-clause-only
returns-in-Err-clause-only c = λ n h. let v = c.args.whole.now in
    fails_as c.in-Err.fault (trace_in (view v)) n c.in-Err.ensures (trace_full n (view v) h)
