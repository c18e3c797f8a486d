use Rattle.mta_fields.proofs.FieldAgain.{expansions_again}
use Rattle.mta_fields.proofs.laws.expansions_are_read_again.Goals as goal

pub returns : goal.returns
returns c = expansions_again
