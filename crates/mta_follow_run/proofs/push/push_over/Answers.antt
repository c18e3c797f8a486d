use Rattle.std.proofs.Common.{subst, ◌++◌, take}
use Rattle.mta_links.specs.Links.{LeadsNext}
use Rattle.mta_follow_units.specs.Units.{record_units}
use Rattle.mta_follow_run.specs.Outcome.{push_no_link, push_over}
use Rattle.mta_follow_run.specs.Talks.{kept_units, station_failed}
use Rattle.mta_follow_run.proofs.Serving.{no_link, served}
use Rattle.mta_follow_run.proofs.push.push_over.Goals as goal

pub returns-in-Ok-Some : goal.returns-in-Ok-Some
returns-in-Ok-Some g c =
    let p = c.push-pushed.ensures in
    push_over c.in-Ok-Some.link c.push-pushed.new.link c.push-pushed.result p
    (served g.S.Link.Link.model g.S.Station.model c.args.station.now c.next.new.self c.back.new.self c.in-Ok-Some.link
    c.push-pushed.new.link (kept_units p.count ++ p.rest)
    (record_units (take p.count c.args.bodies.now) ++ p.piece)
    (subst (λ o. LeadsNext g.S.Link.Link.model o (g.S.Station.model.served c.args.station.now)
    (g.S.Station.model.served c.next.new.self)) c.in-Ok-Some.field-0-is c.in-Ok-Some.ensures.given) p.talks
    c.back.ensures.over)

pub returns-in-Ok-None : goal.returns-in-Ok-None
returns-in-Ok-None g c =
    push_no_link (no_link g.S.Station.model c.args.station.now c.next.new.self
    (subst (λ o. LeadsNext g.S.Link.Link.model o (g.S.Station.model.served c.args.station.now)
    (g.S.Station.model.served c.next.new.self)) c.in-Ok-None.field-0-is c.in-Ok-None.ensures.given))

pub returns-in-Err : goal.returns-in-Err
returns-in-Err g c =
    push_no_link (station_failed c.in-Err.ensures.cause.failed)
