use Rattle.std.proofs.Common.{◌≡◌, ◌∙◌, true, List, ℕ, sym, subst}
use Rattle.std.specs.Prelude.{◌↔◌}
use Rattle.mta_snapshots.specs.Marks.{AreFree, AreGone}
use Rattle.mta_snapshots.proofs.Taking.{not_moving, not_moving_gone, nothing_moves, nothing_moves_gone}
use Rattle.mta_snapshots.proofs.Taking.{moving, moving_gone}
use Rattle.mta_snapshots.proofs.once.take_for.Goals as goal

pub returns-in-Some-clause-exact : goal.returns-in-Some-clause-exact
returns-in-Some-clause-exact c =
    moving c.args.marks.now c.args.lane.now c.in-Some.transfer.now
    (sym c.is_transferring.ensures ∙ c.if-not-is_transferring.false) (sym c.in-Some.ensures) c.take_all.result
    (subst (λ (n : ℕ). (c.take_all.result ≡ true) ↔ AreFree c.args.marks.now n c.in-Some.transfer.now.recipients)
    c.item.ensures
    (subst (λ (rs : List ℕ). (c.take_all.result ≡ true) ↔ AreFree c.args.marks.now c.item.result rs)
    c.recipients.ensures c.take_all.ensures.exact))

pub returns-in-Some-clause-gone : goal.returns-in-Some-clause-gone
returns-in-Some-clause-gone c e =
    moving_gone c.args.marks.now c.args.lane.now c.in-Some.transfer.now
    (sym c.is_transferring.ensures ∙ c.if-not-is_transferring.false) (sym c.in-Some.ensures) c.take_all.new.marks
    (subst (λ (n : ℕ). AreGone c.args.marks.now c.take_all.new.marks n c.in-Some.transfer.now.recipients)
    c.item.ensures
    (subst (λ (rs : List ℕ). AreGone c.args.marks.now c.take_all.new.marks c.item.result rs) c.recipients.ensures
    (c.take_all.ensures.gone e)))

pub returns-in-None-clause-exact : goal.returns-in-None-clause-exact
returns-in-None-clause-exact c = nothing_moves c.args.marks.now c.args.lane.now (sym c.in-None.ensures)

pub returns-in-None-clause-gone : goal.returns-in-None-clause-gone
returns-in-None-clause-gone c e = nothing_moves_gone c.args.marks.now c.args.lane.now (sym c.in-None.ensures)

pub returns-then-not-is_transferring-clause-exact : goal.returns-then-not-is_transferring-clause-exact
returns-then-not-is_transferring-clause-exact c =
    not_moving c.args.marks.now c.args.lane.now (sym c.is_transferring.ensures ∙ c.if-not-is_transferring.true)

pub returns-then-not-is_transferring-clause-gone : goal.returns-then-not-is_transferring-clause-gone
returns-then-not-is_transferring-clause-gone c e =
    not_moving_gone c.args.marks.now c.args.lane.now (sym c.is_transferring.ensures ∙ c.if-not-is_transferring.true)
