use Rattle.mta_follow_units.proofs.LookLaws.{stays}
use Rattle.mta_follow_units.proofs.laws.looks_do_not_change.Goals as goal

pub returns : goal.returns
returns c = stays
