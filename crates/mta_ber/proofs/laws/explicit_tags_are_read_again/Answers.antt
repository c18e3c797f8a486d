use Rattle.mta_ber.proofs.ValueLaws.{explicit_again}
use Rattle.mta_ber.proofs.laws.explicit_tags_are_read_again.Goals as goal

pub returns : goal.returns
returns c = explicit_again
