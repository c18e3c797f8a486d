use Rattle.mta_ber.specs.Seen.{view}
use Rattle.mta_ber.proofs.StringLaws.{reads_found, reads_as}
use Rattle.mta_envelope_common.specs.TraceLists.{trace_list_in, SpellsTraceList}
use Rattle.mta_envelope_common.proofs.TraceListLaws.{trace_list_sound, trace_list_full}
use Rattle.mta_envelope_common.proofs.traces.read_trace.Goals as goal

pub returns-clause-found : goal.returns-clause-found
returns-clause-found c =
    let v = c.args.part.now in
    reads_found (SpellsTraceList v.depth v.tag.constructed v.content.now) c.trace_of.result
    (trace_list_in (view v)) c.trace_of.ensures (λ x e. trace_list_sound x (view v) v.bytes e)

pub returns-clause-only : goal.returns-clause-only
returns-clause-only c = λ x h. let v = c.args.part.now in
    reads_as c.trace_of.result (trace_list_in (view v)) x c.trace_of.ensures (trace_list_full x (view v) h)
