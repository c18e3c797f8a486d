use Rattle.std.proofs.Common.{arith}
use Rattle.mta_copies.proofs.Flags.{passed_over}
use Rattle.mta_copies.proofs.chosen.choose.Goals as goal

pub returns-in-None-clause-each : goal.returns-in-None-clause-each
returns-in-None-clause-each c = λ chosen so.
    let none = c.in-None.ensures.none in
    let len = c.len.ensures in
    passed_over chosen c.args.flags.now.items c.args.position so
    (λ place below here. none place (omega (arith, below, len)) here)
