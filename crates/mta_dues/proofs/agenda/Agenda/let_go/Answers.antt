use Rattle.std.proofs.Common.{subst}
use Rattle.mta_dues.specs.Agendas.{AgendaValue, IsLetGo}
use Rattle.mta_dues.proofs.Keeping.{let_go}
use Rattle.mta_dues.proofs.agenda.Agenda.let_go.Goals as goal

pub returns : goal.returns
returns c =
    let a = c.self.inside in
    let old : AgendaValue = record { active = a.active; later = a.later; since = a.since; known = a.known } in
    subst
    (λ (x : AgendaValue). IsLetGo x (record old { active = c.remove.new.self }) c.args.number) c.self.view_is
    (let_go old c.remove.new.self c.args.number c.remove.ensures.updates)
