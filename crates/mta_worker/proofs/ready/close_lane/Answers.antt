use Rattle.std.proofs.Common.{Err, refl, sym, subst}
use Rattle.mta_session.specs.declared.ask.Ask.TheVariants as ask
use Rattle.mta_session.specs.declared.ask.Reply.TheVariants as reply
use Rattle.mta_stations.specs.declared.end.Halt.{Halt}
use Rattle.mta_worker.specs.declared.proposal.Next.TheVariants as next
use Rattle.mta_worker.specs.declared.ready.Ready.TheVariants as ready
use Rattle.mta_worker.specs.Readying.{IsStepped, Closed, Refused}
use Rattle.mta_worker.proofs.ready.close_lane.Goals as goal

pub returns-in-Ok-clause-stepped : goal.returns-in-Ok-clause-stepped
returns-in-Ok-clause-stepped g c = λ units halt.
    Closed c.args.lane c.args.generation refl c.in-Ok.ensures.appends refl

pub returns-in-Err-clause-stepped : goal.returns-in-Err-clause-stepped
returns-in-Err-clause-stepped g c = λ units halt.
    subst (λ (h : Halt). IsStepped g.D.Disk.model g.C.Clock.model (next.Close c.args.lane c.args.generation) units
    c.args.spool.now halt c.close_lane.new.self halt (ready.Halts h)) (sym c.halt_before.ensures)
    (Refused (ask.CloseLane c.args.lane c.args.generation) (reply.CloseLane (Err c.in-Err.fault)) c.in-Err.fault refl
    c.in-Err.ensures.appends refl refl)
