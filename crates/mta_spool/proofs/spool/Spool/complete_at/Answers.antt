use Rattle.std.proofs.Common.{None, Some, Ok, Err, refl, subst}
use Rattle.std.proofs.lemmas.Result.{err_from_is_err_and}
use Rattle.mta_records.specs.declared.fault.CompleteFault.TheVariants as CompleteFaults
use Rattle.mta_spool.specs.Bases.{KeepsOn}
use Rattle.mta_spool.specs.Shown.{Shown}
use Rattle.mta_spool.proofs.Pieces.{complete_no_memory, completed, last_refused}
use Rattle.mta_spool.proofs.spool.Spool.complete_at.Goals as goal

pub returns-in_err-item-clause-receives : goal.returns-in_err-item-clause-receives
returns-in_err-item-clause-receives g c =
    let p = err_from_is_err_and c.from_residual.result c.from_residual.ensures.1 in
    rw (p.1, p.2)
    (last_refused g.D.Disk.model c.args.self.now c.last_item.new.self c.args.lane c.args.generation c.args.activity
    c.args.number c.args.piece.now c.args.moment c.last_item.ensures.same _
    c.in_err-item.ensures.refused)

pub returns-in_default-clause-receives : goal.returns-in_default-clause-receives
returns-in_default-clause-receives g c =
    complete_no_memory g.D.Disk.model c.args.self.now c.last_item.new.self c.args.lane c.args.generation c.args.activity
    c.args.number c.args.piece.now c.args.moment c.last_item.ensures.same
    c.in_ok-item.ensures.allowed c.in_ok-item.ensures.going c.no_memory.result c.no_memory.ensures

pub make_complete-requires-clause-allowed : goal.make_complete-requires-clause-allowed
make_complete-requires-clause-allowed g c = rw (c.last_item.ensures.same, c.in-Ok.ensures) c.in_ok-item.ensures.allowed

pub make_complete-requires-clause-item : goal.make_complete-requires-clause-item
make_complete-requires-clause-item g c = rw (c.last_item.ensures.same, c.in-Ok.ensures) c.in_ok-item.ensures.item

pub returns-in-Ok-make_complete-clause-receives : goal.returns-in-Ok-make_complete-clause-receives
returns-in-Ok-make_complete-clause-receives g c =
    completed g.D.Disk.model c.args.self.now c.last_item.new.self c.args.lane c.args.generation c.args.activity
    c.args.number c.args.piece.now c.args.moment c.last_item.ensures.same
    c.in_ok-item.ensures.allowed c.make_complete.new.self (Ok c.in-Ok-make_complete.number) None refl
    (rw c.in-Ok.ensures at c.in-Ok-make_complete.ensures.made)

pub returns-in-Err-clause-receives : goal.returns-in-Err-clause-receives
returns-in-Err-clause-receives g c =
    completed g.D.Disk.model c.args.self.now c.last_item.new.self c.args.lane c.args.generation c.args.activity
    c.args.number c.args.piece.now c.args.moment c.last_item.ensures.same
    c.in_ok-item.ensures.allowed c.make_complete.new.self (Err (CompleteFaults.Step c.in-Err.fault))
    (Some c.in-Err.fault) refl
    (rw c.in-Ok.ensures at c.in-Err.ensures.made)

pub returns-in-Ok-make_complete-clause-keeps : goal.returns-in-Ok-make_complete-clause-keeps
returns-in-Ok-make_complete-clause-keeps g c =
    subst (λ (v : Shown _ _). KeepsOn g.D.Disk.model g.C.Clock.model v c.make_complete.new.self)
    c.last_item.ensures.same c.make_complete.ensures.keeps

pub returns-in-Err-clause-keeps : goal.returns-in-Err-clause-keeps
returns-in-Err-clause-keeps g c =
    subst (λ (v : Shown _ _). KeepsOn g.D.Disk.model g.C.Clock.model v c.make_complete.new.self)
    c.last_item.ensures.same c.make_complete.ensures.keeps
