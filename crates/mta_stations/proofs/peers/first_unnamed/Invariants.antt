use Rattle.std.proofs.Common.{◌≡◌, drop}
use Rattle.std.specs.List.{find}
use Rattle.mta_stations.specs.Peers.{is_unnamed}
use Rattle.mta_stations.specs.Stations.{roles_in}
use Rattle.mta_stations.proofs.peers.first_unnamed.Given as goal

abbrev pub invariant-loop-station : goal.invariant-loop-station
invariant-loop-station g l =
    find (is_unnamed l.tables) (roles_in g.S.Station.model l.stations)
    ≡ find (is_unnamed l.tables) (roles_in g.S.Station.model (drop l.station-index l.stations))
