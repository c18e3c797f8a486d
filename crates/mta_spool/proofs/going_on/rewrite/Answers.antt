use Rattle.std.proofs.Common.{List, ℕ, Ok, Err, refl, subst, ◌∙◌}
use Rattle.std.proofs.lemmas.Result.{err_from_is_err_and}
use Rattle.mta_journal.specs.Compacting.{Compacts}
use Rattle.mta_spool.proofs.Continuing.{becomes_compacted, becomes_none, becomes_uncompacted}
use Rattle.mta_spool.proofs.going_on.rewrite.Goals as goal

pub returns-in_err-body-clause-written : goal.returns-in_err-body-clause-written
returns-in_err-body-clause-written g c = λ steps held.
    let p = err_from_is_err_and c.from_residual.result c.from_residual.ensures.1 in
    rw (p.1, p.2)
    (becomes_none g.D.Disk.model g.met.D.Disk.laws steps c.args.journal.now _ held _ c.args.journal.now _ refl)

pub returns-in_err-begin_again-clause-written : goal.returns-in_err-begin_again-clause-written
returns-in_err-begin_again-clause-written g c = λ steps held.
    let p =
    err_from_is_err_and c.from_residual-in_err-begin_again.result c.from_residual-in_err-begin_again.ensures.1 in
    rw (p.1, p.2)
    (becomes_none g.D.Disk.model g.met.D.Disk.laws steps c.args.journal.now _ held _ c.args.journal.now _ refl)

pub returns-in-Ok-clause-written : goal.returns-in-Ok-clause-written
returns-in-Ok-clause-written g c = λ steps held.
    becomes_compacted g.D.Disk.model g.met.D.Disk.laws steps c.args.journal.now _ held c.args.state c.requires.fields
    c.requires.possible c.compact.new.self _ _
    (subst
    (λ (b : List ℕ). Compacts {T = Unit {0}} g.D.Disk.model b c.args.journal.now c.compact.new.self (Ok tt))
    (c.as_slice.ensures ∙ c.in_ok-body.ensures) c.in-Ok.ensures)
    c.in_ok-begin_again.ensures.begun

pub returns-in-Err-clause-written : goal.returns-in-Err-clause-written
returns-in-Err-clause-written g c = λ steps held.
    rw c.why_of_append.ensures
    (becomes_uncompacted g.D.Disk.model g.met.D.Disk.laws steps c.args.journal.now _ held c.args.state
    c.requires.fields c.requires.possible c.compact.new.self c.in-Err.fault _
    (subst
    (λ (b : List ℕ).
    Compacts {T = Unit {0}} g.D.Disk.model b c.args.journal.now c.compact.new.self (Err c.in-Err.fault))
    (c.as_slice.ensures ∙ c.in_ok-body.ensures) c.in-Err.ensures))
