use Rattle.mta_fields.specs.TraceElements.{canonical_trace}
use Rattle.mta_names.proofs.Written.{Left}
use Rattle.mta_envelope_common.proofs.traces.put_elements.Given as goal

abbrev pub invariant-loop-element : goal.invariant-loop-element
invariant-loop-element l = Left canonical_trace l.fn.w l.elements l.element-index l.w
