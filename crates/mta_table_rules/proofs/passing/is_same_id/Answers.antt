use Rattle.mta_table_rules.proofs.Sames.{id_is}
use Rattle.mta_table_rules.proofs.passing.is_same_id.Goals as goal

pub returns : goal.returns
returns c = id_is c.args.first.now c.args.second.now c.same.result c.same.ensures
