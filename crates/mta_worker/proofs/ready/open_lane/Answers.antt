use Rattle.std.proofs.Common.{Some, Ok, Err, refl, sym, subst, ap}
use Rattle.mta_records.specs.Reference.{Identifier}
use Rattle.mta_records.specs.declared.lane.LaneRole.TheVariants.{Initiator}
use Rattle.mta_session.specs.declared.ask.Ask.TheVariants as ask
use Rattle.mta_session.specs.declared.ask.Reply.TheVariants as reply
use Rattle.mta_stations.specs.declared.end.Halt.{Halt}
use Rattle.mta_worker.specs.declared.proposal.Next.TheVariants as next
use Rattle.mta_worker.specs.declared.ready.Ready.TheVariants as ready
use Rattle.mta_worker.specs.Readying.{IsStepped, Begun, No_room, Refused}
use Rattle.mta_worker.proofs.ready.open_lane.Goals as goal

pub returns-in_default-clause-stepped : goal.returns-in_default-clause-stepped
returns-in_default-clause-stepped g c = No_room refl refl

pub returns-in-Ok-opened-clause-stepped : goal.returns-in-Ok-opened-clause-stepped
returns-in-Ok-opened-clause-stepped g c =
    let p = c.args.plan in
    Begun (ask.LaneOpen Initiator p.peer c.in-Ok.reference p.twa p.checkpoint p.window)
    (reply.LaneOpen (Ok c.in-Ok-opened.lane)) c.on_lane.result c.begin-session.result.0 c.begin-session.result.1
    (ap (λ (r : Identifier). Some (ask.LaneOpen Initiator p.peer r p.twa p.checkpoint p.window)) (sym c.in-Ok.ensures))
    (c.in-Ok-opened.ensures.appends, c.in-Ok-opened.ensures.number) (ap Some (sym c.on_lane.ensures.exact))
    c.begin-session.ensures.begins

pub returns-in-Err-clause-stepped : goal.returns-in-Err-clause-stepped
returns-in-Err-clause-stepped g c =
    let p = c.args.plan in
    subst (λ (h : Halt). IsStepped g.D.Disk.model g.C.Clock.model (next.Open c.args.plan)
    c.args.limits.now.units c.args.spool.now c.args.halt.now c.lane_open-opened.new.self c.args.halt.now
    (ready.Halts h)) (sym c.halt_before.ensures)
    (Refused (ask.LaneOpen Initiator p.peer c.in-Ok.reference p.twa p.checkpoint p.window)
    (reply.LaneOpen (Err c.in-Err.fault)) c.in-Err.fault
    (ap (λ (r : Identifier). Some (ask.LaneOpen Initiator p.peer r p.twa p.checkpoint p.window)) (sym c.in-Ok.ensures))
    (c.in-Err.ensures.appends, tt) refl refl)
