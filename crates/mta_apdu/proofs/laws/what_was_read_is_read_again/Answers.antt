use Rattle.mta_apdu.proofs.ApduAgain.{read_apdus_again}
use Rattle.mta_apdu.proofs.laws.what_was_read_is_read_again.Goals as goal

pub returns : goal.returns
returns c = read_apdus_again
