use Rattle.mta_follow_units.proofs.AgainLaws.{again}
use Rattle.mta_follow_units.proofs.laws.units_are_read_again.Goals as goal

pub returns : goal.returns
returns c = again
