use Rattle.std.proofs.Common.{◌≡◌, ℕ, inl, inr, refl, ◌∙◌}
use Rattle.mta_journal.specs.Shown.{IsPlain}
use Rattle.mta_spool.proofs.Continuing.{becomes_same, becomes_settled, becomes_unsettled}
use Rattle.mta_spool.proofs.going_on.settle.Goals as goal

-- another area is current
other : (first : ℕ) → (first ≡ 8 → ⊥) → (first ≡ 23 → ⊥) → IsPlain first → ⊥
other first eight more (inl e) = eight e
other first eight more (inr e) = more e

pub returns-then-first-eq8-clause-settled : goal.returns-then-first-eq8-clause-settled
returns-then-first-eq8-clause-settled g c = λ state steps held.
    becomes_same g.D.Disk.model g.met.D.Disk.laws steps c.args.journal.now state held c.args.journal.now state tt refl
    refl

pub returns-in-Ok-clause-settled : goal.returns-in-Ok-clause-settled
returns-in-Ok-clause-settled g c = λ state steps held.
    becomes_settled g.D.Disk.model g.met.D.Disk.laws steps c.args.journal.now state held
    (other c.args.journal.now.first (λ e. c.if-first-eq8.false (c.first-first.ensures ∙ e))
    (λ e. c.if-first-eq23.false (c.first-first.ensures ∙ e)))
    c.settle.new.self c.in-Ok.ensures

pub returns-in-Err-clause-settled : goal.returns-in-Err-clause-settled
returns-in-Err-clause-settled g c = λ state steps held.
    rw c.why_of_append.ensures
    (becomes_unsettled g.D.Disk.model g.met.D.Disk.laws steps c.args.journal.now state held
    (other c.args.journal.now.first (λ e. c.if-first-eq8.false (c.first-first.ensures ∙ e))
    (λ e. c.if-first-eq23.false (c.first-first.ensures ∙ e)))
    c.settle.new.self c.in-Err.fault c.in-Err.ensures)
