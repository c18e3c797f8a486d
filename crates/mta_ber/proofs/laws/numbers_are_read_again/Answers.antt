use Rattle.mta_ber.proofs.ValueLaws.{numbers_again}
use Rattle.mta_ber.proofs.laws.numbers_are_read_again.Goals as goal

pub returns : goal.returns
returns c = numbers_again
