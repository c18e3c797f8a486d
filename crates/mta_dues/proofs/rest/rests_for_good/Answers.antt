use Rattle.std.proofs.Common.{refl, sym, subst}
use Rattle.mta_dues.specs.Agendas.{AgendaValue, IsAllCalled}
use Rattle.mta_dues.specs.declared.index.Index.{Index}
use Rattle.mta_dues.specs.Index.{HasPending}
use Rattle.mta_dues.proofs.Indexed.{let_go}
use Rattle.mta_dues.proofs.rest.rests_for_good.Goals as goal

pub returns-clause-indexed : goal.returns-clause-indexed
returns-clause-indexed c = λ format text items is indexed.
    let known = c.learn.new.self in
    let new : Index = record { agenda = c.let_go.new.self; spans = known.spans; hand = known.hand; looked = known.looked } in
    let none : HasPending c.args.item.now → ⊥ =
    λ has. (let does = c.has_pending-pending.ensures.1 has in let never = c.if-pending.false in absurd cc) in
    let_go format text items known new c.args.number c.args.item.now none is
    c.let_go.ensures refl refl refl
    (c.learn.ensures.indexed format text items c.args.item.now is
    (c.nobody.ensures.never format text c.args.item.now none) indexed)

pub returns-clause-called : goal.returns-clause-called
returns-clause-called c = λ count moment all.
    c.let_go.ensures.called count moment
    (subst (λ (a : AgendaValue). IsAllCalled a count moment) (sym c.learn.ensures.agenda) all)
