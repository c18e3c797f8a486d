use Rattle.std.proofs.Common.{refl}
use Rattle.mta_worker.proofs.Hearing.{heard_lost, heard_wanting, heard_well, heard_without, named}
use Rattle.mta_worker.proofs.Readied.{responder_begun}
use Rattle.mta_worker.proofs.serving.listen.Goals as goal

pub returns-in-Ok-None-clause-listened : goal.returns-in-Ok-None-clause-listened
returns-in-Ok-None-clause-listened g c =
    heard_without g.D.Disk.model g.C.Clock.model g.L.Link.model c.args.limits.now.units c.own_in_turn.result
    c.in-Ok-None.field-0 c.args.pass.now c.own_in_turn.new.pass c.args.link.now c.args.link.now c.none_begun.result
    c.in-Ok-None.is c.in-Ok-None.field-0-is c.own_in_turn.ensures.own refl c.none_begun.ensures

pub returns-in-Err-clause-listened : goal.returns-in-Err-clause-listened
returns-in-Err-clause-listened g c =
    heard_wanting g.D.Disk.model g.C.Clock.model g.L.Link.model c.args.limits.now.units c.own_in_turn.result
    c.args.pass.now c.own_in_turn.new.pass c.args.link.now c.args.link.now c.none_begun-in-Err.result
    c.own_in_turn.ensures.own refl c.none_begun-in-Err.ensures

pub run_session-requires-clause-called : goal.run_session-requires-clause-called
run_session-requires-clause-called g c =
    responder_begun c.in-Ok-Some.own c.args.limits.now.units c.responder-session.result c.in-Ok.action
    c.tell.new.session (named c.in-Ok-Some.field-0 c.in-Ok-Some.own c.in-Ok-Some.field-0-is c.in-Ok-Some.ensures.shown)
    c.responder-session.ensures c.in-Ok.ensures.told

pub returns-in-Ok-clause-listened : goal.returns-in-Ok-clause-listened
returns-in-Ok-clause-listened g c =
    heard_well g.D.Disk.model g.C.Clock.model g.L.Link.model c.args.limits.now.units c.own_in_turn.result
    c.in-Ok-Some.field-0 c.in-Ok-Some.own c.args.pass.now c.own_in_turn.new.pass c.run_session.new.pass
    c.responder-session.result c.tell.new.session c.in-Ok.action c.args.link.now c.run_session.new.link
    c.run_session.result c.in-Ok-Some.is c.in-Ok-Some.field-0-is c.own_in_turn.ensures.own c.responder-session.ensures
    c.in-Ok.ensures.told c.run_session.ensures.served

pub returns-clause-listened : goal.returns-clause-listened
returns-clause-listened g c =
    heard_lost g.D.Disk.model g.C.Clock.model g.L.Link.model c.args.limits.now.units c.own_in_turn.result
    c.in-Ok-Some.field-0 c.in-Ok-Some.own c.args.pass.now c.own_in_turn.new.pass c.args.link.now c.give_up.new.link
    c.give_up.result c.in-Ok-Some.is c.in-Ok-Some.field-0-is c.own_in_turn.ensures.own c.give_up.ensures.gives
