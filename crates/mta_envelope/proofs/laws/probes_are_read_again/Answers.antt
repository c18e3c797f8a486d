use Rattle.mta_envelope.proofs.MessageAgain.{probes_again}
use Rattle.mta_envelope.proofs.laws.probes_are_read_again.Goals as goal

pub returns : goal.returns
returns c = probes_again
