use Rattle.mta_tables.proofs.Sames.{same_is}
use Rattle.mta_tables.proofs.same.is_same.Goals as goal

pub returns : goal.returns
returns c = same_is c.args.first.now c.args.second.now c.same.result c.same.ensures
