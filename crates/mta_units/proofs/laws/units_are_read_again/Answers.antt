use Rattle.mta_units.proofs.AgainLaws.{units_again}
use Rattle.mta_units.proofs.laws.units_are_read_again.Goals as goal

pub returns : goal.returns
returns c = units_again
