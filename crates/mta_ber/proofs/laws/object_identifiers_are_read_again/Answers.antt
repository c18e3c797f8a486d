use Rattle.mta_ber.proofs.ValueLaws.{oids_again}
use Rattle.mta_ber.proofs.laws.object_identifiers_are_read_again.Goals as goal

pub returns : goal.returns
returns c = oids_again
