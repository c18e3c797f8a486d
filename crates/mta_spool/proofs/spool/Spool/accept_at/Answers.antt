use Rattle.std.proofs.Common.{length, ap, arith}
use Rattle.mta_spool.proofs.Lengths.{length-accept}
use Rattle.mta_spool.proofs.spool.Spool.accept_at.Goals as goal

pub make-requires-clause-short : goal.make-requires-clause-short
make-requires-clause-short g c =
    omega (
      arith,
      length-accept c.args.moment c.in_ok-apdu.apdu,
      ap length c.in_ok-apdu.ensures,
      c.requires.apdu.1.short,
    )
