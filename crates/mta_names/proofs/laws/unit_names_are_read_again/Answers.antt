use Rattle.mta_names.proofs.Again.{units_again}
use Rattle.mta_names.proofs.laws.unit_names_are_read_again.Goals as goal

pub returns : goal.returns
returns c = units_again
