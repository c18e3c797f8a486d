use Rattle.std.proofs.Common.{sym, subst}
use Rattle.mta_session.specs.declared.ask.Ask.{Ask}
use Rattle.mta_session.specs.declared.ask.Reply.TheVariants as reply
use Rattle.mta_worker.specs.Answers.{Answered}
use Rattle.mta_worker.proofs.Growing.{received}
use Rattle.mta_worker.proofs.answering.answer.Goals as goal

pub returns-in-Start-clause-answered : goal.returns-in-Start-clause-answered
returns-in-Start-clause-answered g c =
    subst (λ (a : Ask). Answered g.D.Disk.model g.C.Clock.model a c.args.spool.now (reply.Start c.start.result)
    c.start.new.self) (sym c.in-Start.is)
    (c.start.ensures.appends, c.start.ensures.past_last, c.start.ensures.outgoing)

pub returns-in-Secure-clause-answered : goal.returns-in-Secure-clause-answered
returns-in-Secure-clause-answered g c =
    subst (λ (a : Ask). Answered g.D.Disk.model g.C.Clock.model a c.args.spool.now (reply.Secure c.secure_octets.result)
    c.secure_octets.new.self) (sym c.in-Secure.is) c.secure_octets.ensures.receives

pub returns-in-Complete-clause-answered : goal.returns-in-Complete-clause-answered
returns-in-Complete-clause-answered g c =
    subst (λ (a : Ask). Answered g.D.Disk.model g.C.Clock.model a c.args.spool.now
    (reply.Complete c.complete_octets.result) c.complete_octets.new.self) (sym c.in-Complete.is)
    (c.complete_octets.ensures.receives, c.complete_octets.ensures.number)

pub returns-in-Secure-clause-grows : goal.returns-in-Secure-clause-grows
returns-in-Secure-clause-grows g c =
    received g.D.Disk.model g.C.Clock.model _ _ c.args.spool.now c.secure_octets.new.self c.secure_octets.result
    c.secure_octets.ensures.receives

pub returns-in-Complete-clause-grows : goal.returns-in-Complete-clause-grows
returns-in-Complete-clause-grows g c =
    received g.D.Disk.model g.C.Clock.model _ _ c.args.spool.now c.complete_octets.new.self c.complete_octets.result
    c.complete_octets.ensures.receives.at
