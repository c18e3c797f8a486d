use Rattle.mta_name_text.proofs.NamesAgain.{name_again}
use Rattle.mta_name_text.proofs.laws.names_are_read_again.Goals as goal

pub returns : goal.returns
returns c = name_again
