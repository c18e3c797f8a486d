-- Lists whose steps are in the history's order have own events.
use Rattle.std.proofs.Common.{List, [], ◌∷◌, ◌++◌, map}
use Rattle.mta_transfer_rules.specs.Receiving.{RecvEvent}
use Rattle.mta_transfer_laws.specs.Sendings as out
use Rattle.mta_transfer_laws.specs.Receivings as into

pub sends : out.OwnEventsStand
sends link ls steps out.Ends_here = ([], out.Ends)
sends link ls steps (out.Given_up {ls = ms} {steps = ys} d) =
    let g : (own : List out.OwnEvent) × out.InOrder ms own ys = sends link ms ys d in
    (out.Gives_up ∷ g.0, out.Outside g.1)
sends link ls steps (out.Then {ls = ms} {steps = ys} l d) =
    let g : (own : List out.OwnEvent) × out.InOrder ms own ys = sends link ms ys d in
    (out.Joins (link l.at) ∷ (map (out.on (link l.at)) l.events ++ g.0), out.Stands (link l.at) l g.1)

pub receives : into.OwnEventsStand
receives link ls steps into.Ends_here = ([], into.Ends)
receives link ls steps (into.Then {ls = ms} {steps = ys} l d) =
    let g : (own : List into.OwnEvent) × into.InOrder ms own ys = receives link ms ys d in (
      into.Joins (link l.at) ∷ (map (λ (e : RecvEvent). into.Does (link l.at) e) l.events ++ g.0),
      into.Stands (link l.at) l g.1,
    )
