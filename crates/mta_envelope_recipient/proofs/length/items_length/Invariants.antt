use Rattle.mta_envelope_recipient.specs.Recipients.{canonical_recipient}
use Rattle.mta_names.proofs.LengthLaws.{IsToldTo}
use Rattle.mta_envelope_recipient.proofs.length.items_length.Given as goal

abbrev pub invariant-loop-recipient : goal.invariant-loop-recipient
invariant-loop-recipient l = IsToldTo canonical_recipient l.recipients l.recipient-index l.total
