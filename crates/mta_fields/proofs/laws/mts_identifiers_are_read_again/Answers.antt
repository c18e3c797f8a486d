use Rattle.mta_fields.proofs.FieldAgain.{identifiers_again}
use Rattle.mta_fields.proofs.laws.mts_identifiers_are_read_again.Goals as goal

pub returns : goal.returns
returns c = identifiers_again
