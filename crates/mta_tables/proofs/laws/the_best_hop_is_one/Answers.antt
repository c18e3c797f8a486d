use Rattle.mta_tables.proofs.HopLaws.{hop_found, one_hop}
use Rattle.mta_tables.proofs.laws.the_best_hop_is_one.Goals as goal

pub returns : goal.returns
returns c = record { found = hop_found; one = one_hop }
