use Rattle.std.proofs.Common.{subst, ◌++◌, refl}
use Rattle.mta_links.specs.Links.{LeadsNext}
use Rattle.mta_follow_units.specs.Units.{record_units}
use Rattle.mta_follow_run.specs.Outcome.{pull_no_link, pull_over}
use Rattle.mta_follow_run.specs.Talks.{station_failed}
use Rattle.mta_follow_run.proofs.Serving.{no_link, served}
use Rattle.mta_follow_run.proofs.pull.follow_over.Goals as goal

pub returns-in-Ok-Some : goal.returns-in-Ok-Some
returns-in-Ok-Some g c =
    let p = c.follow-pulled.ensures in
    pull_over c.in-Ok-Some.link c.follow-pulled.new.link c.follow-pulled.result.ended p
    (served g.S.Link.Link.model g.S.Station.model c.args.station.now c.next.new.self c.back.new.self c.in-Ok-Some.link
    c.follow-pulled.new.link (record_units p.got ++ p.rest) p.put
    (subst (λ o. LeadsNext g.S.Link.Link.model o (g.S.Station.model.served c.args.station.now)
    (g.S.Station.model.served c.next.new.self)) c.in-Ok-Some.field-0-is c.in-Ok-Some.ensures.given) p.talks
    c.back.ensures.over)

pub returns-in-Ok-None : goal.returns-in-Ok-None
returns-in-Ok-None g c =
    pull_no_link refl refl (no_link g.S.Station.model c.args.station.now c.next.new.self
    (subst (λ o. LeadsNext g.S.Link.Link.model o (g.S.Station.model.served c.args.station.now)
    (g.S.Station.model.served c.next.new.self)) c.in-Ok-None.field-0-is c.in-Ok-None.ensures.given))

pub returns-in-Err : goal.returns-in-Err
returns-in-Err g c =
    pull_no_link refl refl (station_failed c.in-Err.ensures.cause.failed)
