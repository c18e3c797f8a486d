use Rattle.mta_tables.proofs.Sames.{route_is}
use Rattle.mta_tables.proofs.same.is_on_route.Goals as goal

pub returns : goal.returns
returns c = route_is c.args.name.now c.args.pattern.now c.has_route.result c.has_route.ensures
