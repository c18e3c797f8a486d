use Rattle.mta_apdu_text.specs.Envelopes.{addressee_line}
use Rattle.mta_apdu_text.proofs.Chains.{Left}
use Rattle.mta_apdu_text.proofs.envelope.put_recipient_lines.Given as goal

abbrev pub invariant-loop-recipient : goal.invariant-loop-recipient
invariant-loop-recipient l = Left addressee_line l.fn.out l.recipients l.recipient-index l.out
