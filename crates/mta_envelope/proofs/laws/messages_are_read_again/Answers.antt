use Rattle.mta_envelope.proofs.MessageAgain.{messages_again}
use Rattle.mta_envelope.proofs.laws.messages_are_read_again.Goals as goal

pub returns : goal.returns
returns c = messages_again
