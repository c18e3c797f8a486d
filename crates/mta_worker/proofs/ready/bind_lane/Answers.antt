use Rattle.std.proofs.Common.{Some, Ok, Err, refl, sym, subst, ap}
use Rattle.mta_session.specs.declared.ask.Ask.TheVariants as ask
use Rattle.mta_session.specs.declared.ask.Reply.TheVariants as reply
use Rattle.mta_stations.specs.declared.end.Halt.{Halt}
use Rattle.mta_worker.specs.declared.proposal.Next.TheVariants as next
use Rattle.mta_worker.specs.declared.ready.Ready.TheVariants as ready
use Rattle.mta_worker.specs.Readying.{IsStepped, Begun, Refused}
use Rattle.mta_worker.proofs.ready.bind_lane.Goals as goal

pub returns-in-Ok-clause-stepped : goal.returns-in-Ok-clause-stepped
returns-in-Ok-clause-stepped g c =
    Begun (ask.Bind c.args.lane) (reply.Bind (Ok c.in-Ok.generation)) c.on_lane-plan.result c.begin-session.result.0
    c.begin-session.result.1 refl (c.in-Ok.ensures.appends, c.in-Ok.ensures.past_last, c.in-Ok.ensures.generation)
    (ap Some (sym c.on_lane-plan.ensures.exact)) c.begin-session.ensures.begins

pub returns-in-Err-clause-stepped : goal.returns-in-Err-clause-stepped
returns-in-Err-clause-stepped g c =
    subst (λ (h : Halt). IsStepped g.D.Disk.model g.C.Clock.model (next.Bind c.args.lane c.args.plan)
    c.args.limits.now.units c.args.spool.now c.args.halt.now c.bind.new.self c.args.halt.now (ready.Halts h))
    (sym c.halt_before.ensures)
    (Refused (ask.Bind c.args.lane) (reply.Bind (Err c.in-Err.fault)) c.in-Err.fault refl
    (c.in-Err.ensures.appends, c.in-Err.ensures.past_last, tt) refl refl)
