use Rattle.mta_stations.specs.Stations.{roles_in}
use Rattle.mta_stations.proofs.RoleLaws.{roles_same}
use Rattle.mta_stations.proofs.roles.have_roles.Goals as goal

pub returns-clause-meaning : goal.returns-clause-meaning
returns-clause-meaning g c =
    rw c.are_roles_of.ensures (roles_same c.args.words.now (roles_in g.S.Station.model c.args.stations.now))
