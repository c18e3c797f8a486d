use Rattle.mta_names.proofs.Again.{pairs_again}
use Rattle.mta_names.proofs.laws.domain_defined_attributes_are_read_again.Goals as goal

pub returns : goal.returns
returns c = pairs_again
