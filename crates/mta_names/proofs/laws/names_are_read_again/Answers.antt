use Rattle.mta_names.proofs.NameAgain.{names_again}
use Rattle.mta_names.proofs.laws.names_are_read_again.Goals as goal

pub returns : goal.returns
returns c = names_again
