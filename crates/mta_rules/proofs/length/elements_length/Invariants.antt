use Rattle.mta_fields.specs.TraceElements.{canonical_trace}
use Rattle.mta_names.proofs.LengthLaws.{IsToldTo}
use Rattle.mta_rules.proofs.length.elements_length.Given as goal

abbrev pub invariant-loop-element : goal.invariant-loop-element
invariant-loop-element l = IsToldTo canonical_trace l.elements l.element-index l.total
