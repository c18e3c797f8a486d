use Rattle.mta_apdu_text.specs.Lines.{extension_line}
use Rattle.mta_apdu_text.proofs.Chains.{Left}
use Rattle.mta_apdu_text.proofs.lines.put_extension_lines.Given as goal

abbrev pub invariant-loop-field : goal.invariant-loop-field
invariant-loop-field l = Left extension_line l.fn.out l.extensions l.field-index l.out
