use Rattle.mta_envelope_recipient.proofs.RecKept.{recipient_kept}
use Rattle.mta_envelope_recipient.proofs.laws.recipients_that_were_read_are_kept.Goals as goal

pub returns : goal.returns
returns c = recipient_kept
