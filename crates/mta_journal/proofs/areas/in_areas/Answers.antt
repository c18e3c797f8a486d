use Rattle.std.proofs.Common.{ℕ, subst}
use Rattle.std.proofs.lemmas.Result.{err_from_is_err_and}
use Rattle.mta_journal.specs.Opening.{Marks}
use Rattle.mta_journal.proofs.Reading.{carried}
use Rattle.mta_journal.proofs.areas.in_areas.Goals as goal

pub in_second-requires-clause-marked : goal.in_second-requires-clause-marked
in_second-requires-clause-marked g c = λ f told.
    subst (λ (n : ℕ). Marks f n c.args.areas.high) c.if-areas-eq1.true (c.requires.marked f told)

pub returns-in_err-placed-clause-not_spool : goal.returns-in_err-placed-clause-not_spool
returns-in_err-placed-clause-not_spool g c =
    let p = err_from_is_err_and c.from_residual.result c.from_residual.ensures.1 in
    λ q e f told. c.in_second.ensures.not_spool q (carried _ _ _ _ _ c.in_err-placed.was p.1 p.2 e) f told
