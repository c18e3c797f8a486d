use Rattle.mta_apdu.proofs.ApduAgain.{stored_again, stored_kept}
use Rattle.mta_apdu.proofs.ApduLaws.{stored_is}
use Rattle.mta_apdu.proofs.laws.stored_apdus_are_read_again.Goals as goal

pub returns-clause-again : goal.returns-clause-again
returns-clause-again c = stored_again

pub returns-clause-kept : goal.returns-clause-kept
returns-clause-kept c = stored_kept

pub returns-clause-submitted : goal.returns-clause-submitted
returns-clause-submitted c = stored_is
