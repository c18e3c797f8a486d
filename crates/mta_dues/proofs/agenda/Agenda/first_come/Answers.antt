use Rattle.std.proofs.Common.{subst, arith}
use Rattle.mta_dues.specs.Agendas.{AgendaValue, AllLater, IsFirst}
use Rattle.mta_dues.proofs.Keeping.{all_later, first_is, none_later, nothing_first}
use Rattle.mta_dues.proofs.agenda.Agenda.first_come.Goals as goal

pub returns-in-None : goal.returns-in-None
returns-in-None c =
    let a = c.self.inside in
    let inner : AgendaValue = record { active = a.active; later = a.later; since = a.since; known = a.known } in
    subst (λ (x : AgendaValue). AllLater x c.args.moment) c.self.view_is
    (none_later inner c.args.moment (nothing_first inner c.first.result c.first.ensures.variant c.in-None.is))

pub returns-then-first-moment : goal.returns-then-first-moment
returns-then-first-moment c =
    let a = c.self.inside in
    subst (λ (x : AgendaValue). IsFirst x c.in-Some.first.now.1) c.self.view_is
    (first_is (record { active = a.active; later = a.later; since = a.since; known = a.known }) c.in-Some.first.now
    c.in-Some.ensures.first)

pub returns-else-first-moment : goal.returns-else-first-moment
returns-else-first-moment c =
    let a = c.self.inside in
    subst (λ (x : AgendaValue). AllLater x c.args.moment) c.self.view_is
    (all_later (record { active = a.active; later = a.later; since = a.since; known = a.known }) c.args.moment
    c.in-Some.first.now (omega (arith, c.if-first-moment.false)) c.in-Some.ensures.least)
