use Rattle.mta_ber.proofs.ValueLaws.{bits_again}
use Rattle.mta_ber.proofs.laws.bits_are_read_again.Goals as goal

pub returns : goal.returns
returns c = bits_again
