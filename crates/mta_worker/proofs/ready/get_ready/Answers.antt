use Rattle.std.proofs.Common.{ℕ, refl, sym, subst}
use Rattle.mta_stations.specs.declared.end.Halt.TheVariants as Halts
use Rattle.mta_worker.specs.declared.proposal.Next.TheVariants as next
use Rattle.mta_worker.specs.declared.ready.Ready.TheVariants as ready
use Rattle.mta_worker.specs.Proposals.{IsNext}
use Rattle.mta_worker.specs.Readying.{IsReadied, No_peer, No_number, No_memory, Stepped}
use Rattle.mta_worker.proofs.ready.get_ready.Goals as goal

pub returns-in-Ok-NoPeer-clause-readied : goal.returns-in-Ok-NoPeer-clause-readied
returns-in-Ok-NoPeer-clause-readied g c =
    No_peer (subst (IsNext c.args.spool.now.current c.args.peer.now) c.in-Ok-NoPeer.field-0-is
    c.in-Ok-NoPeer.ensures.exact) refl refl

pub returns-in-Ok-NoNumber-clause-readied : goal.returns-in-Ok-NoNumber-clause-readied
returns-in-Ok-NoNumber-clause-readied g c =
    subst (λ (n : ℕ). IsReadied g.D.Disk.model g.C.Clock.model c.args.peer.now c.args.limits.now.units
    c.args.spool.now c.args.halt.now c.args.spool.now c.args.halt.now (ready.Halts (Halts.Spent n)))
    (sym c.from.ensures)
    (No_number c.in-Ok-NoNumber.last (subst (IsNext c.args.spool.now.current c.args.peer.now)
    c.in-Ok-NoNumber.field-0-is c.in-Ok-NoNumber.ensures.exact) refl refl)

pub returns-in-Ok-Close-clause-readied : goal.returns-in-Ok-Close-clause-readied
returns-in-Ok-Close-clause-readied g c =
    Stepped (next.Close c.in-Ok-Close.lane c.in-Ok-Close.generation) c.close_lane.result
    (subst (IsNext c.args.spool.now.current c.args.peer.now) c.in-Ok-Close.field-0-is c.in-Ok-Close.ensures.exact)
    (c.close_lane.ensures.stepped c.args.limits.now.units c.args.halt.now)

pub returns-in-Ok-Bind-clause-readied : goal.returns-in-Ok-Bind-clause-readied
returns-in-Ok-Bind-clause-readied g c =
    Stepped (next.Bind c.in-Ok-Bind.lane c.in-Ok-Bind.plan) c.bind_lane.result
    (subst (IsNext c.args.spool.now.current c.args.peer.now) c.in-Ok-Bind.field-0-is c.in-Ok-Bind.ensures.exact)
    c.bind_lane.ensures.stepped

pub returns-in-Ok-Open-clause-readied : goal.returns-in-Ok-Open-clause-readied
returns-in-Ok-Open-clause-readied g c =
    Stepped (next.Open c.in-Ok-Open.plan) c.open_lane.result
    (subst (IsNext c.args.spool.now.current c.args.peer.now) c.in-Ok-Open.field-0-is c.in-Ok-Open.ensures.exact)
    c.open_lane.ensures.stepped

pub returns-in-Err-clause-readied : goal.returns-in-Err-clause-readied
returns-in-Err-clause-readied g c = No_memory refl refl
