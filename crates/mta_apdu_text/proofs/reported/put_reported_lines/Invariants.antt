use Rattle.mta_apdu_text.specs.Reporteds.{reported_line}
use Rattle.mta_apdu_text.proofs.Chains.{Left}
use Rattle.mta_apdu_text.proofs.reported.put_reported_lines.Given as goal

abbrev pub invariant-loop-recipient : goal.invariant-loop-recipient
invariant-loop-recipient l = Left reported_line l.fn.out l.recipients l.recipient-index l.out
