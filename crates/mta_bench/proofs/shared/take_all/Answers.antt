use Rattle.std.proofs.Common.{subst}
use Rattle.mta_shared.specs.Passes.{lock_of}
use Rattle.mta_bench.specs.Parts.{IsPart}
use Rattle.mta_bench.proofs.shared.take_all.Goals as goal

pub returns : goal.returns
returns g c i d h =
    let e = (c.for_each_mut.ensures i d h).1 in
    subst (IsPart (lock_of c.args.shared.now)) e.left e.call
