use Rattle.std.proofs.Common.{◌≡◌, true, sym, subst}
use Rattle.mta_state.specs.Kept.{state_of}
use Rattle.mta_dues.specs.Agendas.{AgendaValue, IsAllCalled, is_active}
use Rattle.mta_dues.specs.declared.index.Index.{Index}
use Rattle.mta_dues.proofs.Idle.{nothing_of_idle}
use Rattle.mta_dues.proofs.Passed.{stored_at}
use Rattle.mta_dues.proofs.scan.look.Goals as goal

pub rests_for_good-requires-clause-stored : goal.rests_for_good-requires-clause-stored
rests_for_good-requires-clause-stored g c =
    stored_at c.args.kept.now.parts.items.items c.args.number c.in-Some.item.now c.requires.stored
    (sym c.in-Some.ensures)

pub returns-then-rests_for_good-clause-first : goal.returns-then-rests_for_good-clause-first
returns-then-rests_for_good-clause-first g c =
    nothing_of_idle (state_of c.args.kept.now) c.args.number c.args.moment (g.R.Rules.format c.args.rules.now)
    (g.R.Rules.text c.args.rules.now)
    c.in-Some.item.now c.requires.kept c.requires.text c.requires.format (sym c.in-Some.ensures)
    (c.rests_for_good.ensures.idle c.if-rests_for_good.true (g.R.Rules.format c.args.rules.now)
    (g.R.Rules.text c.args.rules.now) c.args.moment)

pub returns-then-rests_for_good-clause-indexed : goal.returns-then-rests_for_good-clause-indexed
returns-then-rests_for_good-clause-indexed g c =
    c.rests_for_good.ensures.indexed (g.R.Rules.format c.args.rules.now) (g.R.Rules.text c.args.rules.now)
    c.args.kept.now.parts.items.items
    (sym c.in-Some.ensures) c.requires.indexed

pub returns-then-rests_for_good-clause-called : goal.returns-then-rests_for_good-clause-called
returns-then-rests_for_good-clause-called g c = λ count all.
    c.rests_for_good.ensures.called count c.args.moment all

pub returns-in_err-reading-clause-indexed : goal.returns-in_err-reading-clause-indexed
returns-in_err-reading-clause-indexed g c =
    c.take.ensures.indexed (g.R.Rules.format c.args.rules.now) (g.R.Rules.text c.args.rules.now)
    c.args.kept.now.parts.items.items
    (c.rests_for_good.ensures.indexed (g.R.Rules.format c.args.rules.now) (g.R.Rules.text c.args.rules.now)
    c.args.kept.now.parts.items.items
    (sym c.in-Some.ensures) c.requires.indexed)

pub look_at-found-requires-clause-stored : goal.look_at-found-requires-clause-stored
look_at-found-requires-clause-stored g c =
    stored_at c.args.kept.now.parts.items.items c.args.number c.in-Some.item.now c.requires.stored
    (sym c.in-Some.ensures)

pub span_by-requires-clause-arrived : goal.span_by-requires-clause-arrived
span_by-requires-clause-arrived g c =
    (stored_at c.args.kept.now.parts.items.items c.args.number c.in-Some.item.now c.requires.stored
    (sym c.in-Some.ensures)).arrived

pub look_at-found-requires-clause-active : goal.look_at-found-requires-clause-active
look_at-found-requires-clause-active g c =
    let same = c.rests_for_good.ensures.same c.if-rests_for_good.false in
    subst (λ (a : AgendaValue). is_active a c.args.number ≡ true) (sym c.learn.ensures.agenda)
    (subst (λ (a : AgendaValue). is_active a c.args.number ≡ true) (sym c.take.ensures.agenda)
    (subst (λ (x : Index). is_active x.agenda c.args.number ≡ true) (sym same) c.requires.active))

pub look_at-found-requires-clause-indexed : goal.look_at-found-requires-clause-indexed
look_at-found-requires-clause-indexed g c =
    c.learn.ensures.indexed (g.R.Rules.format c.args.rules.now) (g.R.Rules.text c.args.rules.now)
    c.args.kept.now.parts.items.items c.in-Some.item.now (sym c.in-Some.ensures) c.span_by.ensures
    (c.take.ensures.indexed (g.R.Rules.format c.args.rules.now) (g.R.Rules.text c.args.rules.now)
    c.args.kept.now.parts.items.items
    (c.rests_for_good.ensures.indexed (g.R.Rules.format c.args.rules.now) (g.R.Rules.text c.args.rules.now)
    c.args.kept.now.parts.items.items
    (sym c.in-Some.ensures) c.requires.indexed))

pub returns-clause-indexed : goal.returns-clause-indexed
returns-clause-indexed g c =
    c.keep.ensures.indexed (g.R.Rules.format c.args.rules.now) (g.R.Rules.text c.args.rules.now)
    c.args.kept.now.parts.items.items c.in-Some.item.now
    (sym c.in-Some.ensures) c.in_ok-reading.ensures.reading c.look_at-found.ensures.indexed

pub returns-clause-called : goal.returns-clause-called
returns-clause-called g c = λ count all.
    subst (λ (a : AgendaValue). IsAllCalled a count c.args.moment) (sym c.keep.ensures.agenda)
    (c.look_at-found.ensures.called count
    (subst (λ (a : AgendaValue). IsAllCalled a count c.args.moment) (sym c.learn.ensures.agenda)
    (subst (λ (a : AgendaValue). IsAllCalled a count c.args.moment) (sym c.take.ensures.agenda)
    (c.rests_for_good.ensures.called count c.args.moment all))))
