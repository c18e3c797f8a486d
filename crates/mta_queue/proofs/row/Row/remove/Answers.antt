use Rattle.std.proofs.Common.{◌≡◌, List, ℕ, remove, sym, ap, subst, ◌∙◌}
use Rattle.mta_queue.specs.Row.{RowValue}
use Rattle.mta_queue.proofs.Rows.{first_goes, later_goes}
use Rattle.mta_queue.proofs.row.Row.remove.Goals as goal

pub returns-then-place-eq0-clause-items : goal.returns-then-place-eq0-clause-items
returns-then-place-eq0-clause-items c =
    subst (λ (p : ℕ). c.pack.new.self.items ≡ remove c.args.self.now.items p) (sym c.if-place-eq0.true)
    (subst (λ (v : RowValue). c.pack.new.self.items ≡ remove v.items 0) c.self.view_is
    (first_goes c.self.inside.gone c.self.inside.numbers.items c.pack.new.self.items c.pack.ensures.items))

pub returns-else-place-eq0-clause-items : goal.returns-else-place-eq0-clause-items
returns-else-place-eq0-clause-items c =
    later_goes c.self-else-place-eq0.inside.gone c.args.place c.self-else-place-eq0.inside.numbers.items
    c.remove.new.self.items c.remove.ensures.items
    ∙ ap (λ (v : RowValue). remove v.items c.args.place) c.self-else-place-eq0.view_is
