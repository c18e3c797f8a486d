use Rattle.mta_follow_units.proofs.AgainLaws.{exact}
use Rattle.mta_follow_units.proofs.laws.looks_are_exact.Goals as goal

pub returns : goal.returns
returns c = exact
