use Rattle.mta_apdu_text.specs.Lines.{trace_line}
use Rattle.mta_apdu_text.proofs.Chains.{Left}
use Rattle.mta_apdu_text.proofs.lines.put_trace_lines.Given as goal

abbrev pub invariant-loop-element : goal.invariant-loop-element
invariant-loop-element l = Left trace_line l.fn.out l.trace l.element-index l.out
