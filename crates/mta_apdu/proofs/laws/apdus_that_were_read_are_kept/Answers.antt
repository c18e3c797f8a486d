use Rattle.mta_apdu.proofs.ApduAgain.{apdus_kept}
use Rattle.mta_apdu.proofs.laws.apdus_that_were_read_are_kept.Goals as goal

pub returns : goal.returns
returns c = apdus_kept
