use Rattle.mta_fields.proofs.FieldAgain.{domains_again}
use Rattle.mta_fields.proofs.laws.domains_are_read_again.Goals as goal

pub returns : goal.returns
returns c = domains_again
