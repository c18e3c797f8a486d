use Rattle.std.proofs.Common.{arith}
use Rattle.std.proofs.lemmas.Result.{err_from_is_err_and}
use Rattle.mta_journal.proofs.Reading.{carried, not_short}
use Rattle.mta_journal.proofs.read.read_ahead.Goals as goal

pub returns-in_err-octets-clause-short : goal.returns-in_err-octets-clause-short
returns-in_err-octets-clause-short g c =
    let p = err_from_is_err_and c.from_residual.result c.from_residual.ensures.1 in
    λ q e f told.
    let size = c.requires.size f told in
    not_short c.args.gate c.min-2.result f (omega (arith, size, c.min-2.ensures))
    (c.read.ensures.short q (carried _ _ _ _ _ c.in_err-octets.was p.1 p.2 e) f told)
