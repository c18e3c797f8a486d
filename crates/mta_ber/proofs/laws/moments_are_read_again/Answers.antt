use Rattle.mta_ber.proofs.TimeAgain.{moments_again}
use Rattle.mta_ber.proofs.laws.moments_are_read_again.Goals as goal

pub returns : goal.returns
returns c = moments_again
