use Rattle.std.proofs.Common.{◌≡◌, IfOk, sym, subst}
use Rattle.mta_worker.proofs.Lines.{line_at}
use Rattle.mta_worker.proofs.line.line_of.Goals as goal

pub returns-in-Some-clause-exact : goal.returns-in-Some-clause-exact
returns-in-Some-clause-exact g c =
    subst (λ v. IfOk c.line_in.result (λ p. p ≡ v)) (sym (line_at c.args.spool.now.current.machine c.args.name.now
    c.in-Some.tables.now c.in-Some.ensures.0 c.in-Some.ensures.1)) c.line_in.ensures.exact
