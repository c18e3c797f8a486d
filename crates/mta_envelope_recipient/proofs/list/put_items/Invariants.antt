use Rattle.mta_names.proofs.Written.{Left}
use Rattle.mta_envelope_recipient.specs.Recipients.{canonical_recipient}
use Rattle.mta_envelope_recipient.proofs.list.put_items.Given as goal

abbrev pub invariant-loop-recipient : goal.invariant-loop-recipient
invariant-loop-recipient l = Left canonical_recipient l.fn.w l.recipients l.recipient-index l.w
