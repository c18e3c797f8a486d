use Rattle.mta_drill_laws.proofs.Delivered.{copies_delivered}
use Rattle.mta_drill_laws.proofs.laws.copies_are_delivered.Goals as goal

pub returns : goal.returns
returns c = copies_delivered
