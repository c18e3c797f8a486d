use Rattle.mta_apdu.proofs.ApduAgain.{no_apdu_begins}
use Rattle.mta_apdu.proofs.laws.no_apdu_begins_another.Goals as goal

pub returns : goal.returns
returns c = no_apdu_begins
