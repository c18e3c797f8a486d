use Rattle.mta_shared.specs.Passes.{lock_of}
use Rattle.mta_bench.specs.Parts.{IsPart}
use Rattle.mta_bench.proofs.shared.take_turns.Given as goal

abbrev pub invariant-loop-number : goal.invariant-loop-number
invariant-loop-number g l = IsPart (lock_of l.shared) l.pass
