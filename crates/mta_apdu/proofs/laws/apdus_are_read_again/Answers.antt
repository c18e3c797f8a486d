use Rattle.mta_apdu.proofs.ApduAgain.{apdus_again}
use Rattle.mta_apdu.proofs.laws.apdus_are_read_again.Goals as goal

pub returns : goal.returns
returns c = apdus_again
