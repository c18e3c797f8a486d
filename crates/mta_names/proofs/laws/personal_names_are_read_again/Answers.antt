use Rattle.mta_names.proofs.Again.{persons_again}
use Rattle.mta_names.proofs.laws.personal_names_are_read_again.Goals as goal

pub returns : goal.returns
returns c = persons_again
