use Rattle.std.proofs.Common.{◌≡◌, ◌-◌, ◌<◌, ℕ, Bool, List, eqb, length, set, Some, refl, sym, ap, subst, ◌∙◌, arith}
use Rattle.std.specs.Prelude.{◌&&◌, not}
use Rattle.std.proofs.lemmas.Option.{slice_get_past, slice_get-get_or}
use Rattle.mta_snapshots.specs.Marks.{mark_at}
use Rattle.mta_snapshots.proofs.Taking.{gone_already, mark_gone, mark_was, no_item, no_recipient, no_such_item}
use Rattle.mta_snapshots.proofs.marks.Marks.take.Goals as goal

pub returns-then-item-eq0-clause-was : goal.returns-then-item-eq0-clause-was
returns-then-item-eq0-clause-was c =
    sym (no_item c.args.self.now c.args.item c.args.recipient c.if-item-eq0.true)

pub returns-then-item-eq0-clause-gone : goal.returns-then-item-eq0-clause-gone
returns-then-item-eq0-clause-gone c =
    gone_already c.args.self.now c.args.item c.args.recipient
    (no_item c.args.self.now c.args.item c.args.recipient c.if-item-eq0.true)

pub returns-then-recipient-eq0-clause-was : goal.returns-then-recipient-eq0-clause-was
returns-then-recipient-eq0-clause-was c =
    sym (no_recipient c.args.self.now c.args.item c.args.recipient c.if-recipient-eq0.true)

pub returns-then-recipient-eq0-clause-gone : goal.returns-then-recipient-eq0-clause-gone
returns-then-recipient-eq0-clause-gone c =
    gone_already c.args.self.now c.args.item c.args.recipient
    (no_recipient c.args.self.now c.args.item c.args.recipient c.if-recipient-eq0.true)

pub returns-then-len-place-clause-was : goal.returns-then-len-place-clause-was
returns-then-len-place-clause-was c =
    sym (no_such_item c.args.self.now c.args.item c.args.recipient (c.args.item - 1)
    (c.args.recipient - 1) (omega arith) (omega arith)
    (slice_get_past c.args.self.now (c.args.item - 1)
    (omega (arith, c.if-len-place.true, c.len.ensures, c.self.inside.inner.ok, ap length c.self.view_is))))

pub returns-then-len-place-clause-gone : goal.returns-then-len-place-clause-gone
returns-then-len-place-clause-gone c =
    gone_already c.args.self.now c.args.item c.args.recipient
    (no_such_item c.args.self.now c.args.item c.args.recipient (c.args.item - 1)
    (c.args.recipient - 1) (omega arith) (omega arith)
    (slice_get_past c.args.self.now (c.args.item - 1)
    (omega (arith, c.if-len-place.true, c.len.ensures, c.self.inside.inner.ok, ap length c.self.view_is))))

pub returns-clause-was : goal.returns-clause-was
returns-clause-was c =
    let flags = c.index_mut-flags.result.now in
    let within : c.args.item - 1 < length c.self.inside.inner.items =
    omega (arith, c.if-len-place.false, c.len.ensures, c.self.inside.inner.ok) in
    subst (λ (ms : List (List Bool)). c.take.result ≡ mark_at ms c.args.item c.args.recipient) c.self.view_is
    (mark_was c.self.inside.inner.items c.args.item c.args.recipient (c.args.item - 1) (c.args.recipient - 1)
    (omega arith) (omega arith) flags c.take.result
    (slice_get-get_or c.self.inside.inner.items (c.args.item - 1) _ within
    ∙ ap (λ (fs : List Bool). Some fs) (sym c.index_mut-flags.ensures.value))
    c.take.ensures.was)

pub returns-clause-gone : goal.returns-clause-gone
returns-clause-gone c =
    let flags = c.index_mut-flags.result.now in
    let within : c.args.item - 1 < length c.self.inside.inner.items =
    omega (arith, c.if-len-place.false, c.len.ensures, c.self.inside.inner.ok) in
    subst
    (λ (ms : List (List Bool)). (j q : ℕ)
    → mark_at (set c.self.inside.inner.items (c.args.item - 1) c.take.new.self) j q
    ≡ (mark_at ms j q && not (eqb j c.args.item && eqb q c.args.recipient))) c.self.view_is
    (mark_gone c.self.inside.inner.items c.args.item c.args.recipient (c.args.item - 1) (c.args.recipient - 1)
    (omega arith) (omega arith) flags c.take.new.self
    (set c.self.inside.inner.items (c.args.item - 1) c.take.new.self)
    (slice_get-get_or c.self.inside.inner.items (c.args.item - 1) _ within
    ∙ ap (λ (fs : List Bool). Some fs) (sym c.index_mut-flags.ensures.value))
    c.take.ensures.gone refl)
