use Rattle.std.proofs.Common.{◌≤◌, ◌<◌, refl, subst, arith}
use Rattle.mta_dues.specs.Agendas.{AgendaValue, IsPutOff}
use Rattle.mta_dues.proofs.Keeping.{put_off, put_off_by}
use Rattle.mta_dues.proofs.agenda.Agenda.put_off.Goals as goal

pub returns-in-Ok : goal.returns-in-Ok
returns-in-Ok c =
    let a = c.self.inside in
    let old : AgendaValue = record { active = a.active; later = a.later; since = a.since; known = a.known } in
    let new : AgendaValue = record {
      active = c.remove.new.self;
      later = c.insert.new.self;
      since = c.max-self-inside.result;
      known = a.known;
    } in
    let short = c.short_of-short.result in
    let later : c.args.moment < short = omega (arith, c.if-short-moment.false) in
    let most : short ≤ c.args.until = omega (arith, c.short_of-short.ensures) in
    subst (λ (x : AgendaValue). IsPutOff x new c.args.number c.args.moment c.args.until) c.self.view_is
    (put_off_by old new c.args.number c.args.moment short c.args.until most
    (put_off old new c.args.number c.args.moment short refl c.max-self-inside.ensures
    c.in-Ok.ensures.updates c.remove.ensures.updates later))
