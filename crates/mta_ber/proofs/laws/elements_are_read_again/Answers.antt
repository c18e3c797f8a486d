use Rattle.mta_ber.proofs.ValueLaws.{elements_again}
use Rattle.mta_ber.proofs.laws.elements_are_read_again.Goals as goal

pub returns : goal.returns
returns c = elements_again
