use Rattle.std.proofs.Common.{Bor, sym, subst}
use Rattle.std.specs.Prelude.{All, IfSome, IfNone}
use Rattle.mta_ber.specs.declared.word.Word.{Word}
use Rattle.mta_stations.specs.Peers.{IsNamed, IsUnnamed}
use Rattle.mta_stations.specs.Stations.{roles_in}
use Rattle.mta_stations.proofs.Finds.{none_mapped, of_mapped}
use Rattle.mta_stations.proofs.PeerLaws.{all_are_named, peer_is_unnamed}
use Rattle.mta_stations.proofs.peers.unnamed_peer.Goals as goal

pub returns-clause-found : goal.returns-clause-found
returns-clause-found g c =
    let t = c.args.tables.now in
    let roles = roles_in g.S.Station.model c.args.stations.now in
    of_mapped (λ (w : Bor Word). w.now) (IsUnnamed t roles) c.first_unnamed.result
    (subst (λ o. IfSome o (IsUnnamed t roles)) (sym c.first_unnamed.ensures) (peer_is_unnamed t roles))

pub returns-clause-none : goal.returns-clause-none
returns-clause-none g c =
    let t = c.args.tables.now in
    let roles = roles_in g.S.Station.model c.args.stations.now in
    none_mapped (λ (w : Bor Word). w.now) (All (IsNamed t) roles) c.first_unnamed.result
    (subst (λ o. IfNone o (All (IsNamed t) roles)) (sym c.first_unnamed.ensures) (all_are_named t roles))
