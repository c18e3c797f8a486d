use Rattle.mta_ber.proofs.ValueLaws.{texts_again}
use Rattle.mta_ber.proofs.laws.texts_are_read_again.Goals as goal

pub returns : goal.returns
returns c = texts_again
