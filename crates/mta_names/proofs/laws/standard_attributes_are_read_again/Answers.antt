use Rattle.mta_names.proofs.NameAgain.{standard_again}
use Rattle.mta_names.proofs.laws.standard_attributes_are_read_again.Goals as goal

pub returns : goal.returns
returns c = standard_again
