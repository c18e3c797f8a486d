use Rattle.mta_envelope_recipient.proofs.Again.{recipients_again, recipient_lists_again}
use Rattle.mta_envelope_recipient.proofs.laws.recipients_are_read_again.Goals as goal

pub returns-clause-recipients : goal.returns-clause-recipients
returns-clause-recipients c = recipients_again

pub returns-clause-lists : goal.returns-clause-lists
returns-clause-lists c = recipient_lists_again
