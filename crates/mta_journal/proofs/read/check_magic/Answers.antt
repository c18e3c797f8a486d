use Rattle.std.proofs.Common.{arith}
use Rattle.std.proofs.lemmas.Result.{err_from_is_err_and}
use Rattle.mta_journal.proofs.Reading.{carried, not_short}
use Rattle.mta_journal.proofs.read.check_magic.Goals as goal

pub returns-in_err-head-clause-differs : goal.returns-in_err-head-clause-differs
returns-in_err-head-clause-differs g c =
    let p = err_from_is_err_and c.from_residual.result c.from_residual.ensures.1 in
    λ q e f told.
    let long = c.requires.long f told in
    absurd (not_short 0 8 f (omega arith)
    (c.read.ensures.short q (carried _ _ _ _ _ c.in_err-head.was p.1 p.2 e) f told))
