use Rattle.std.proofs.Common.{◌≡◌, ◌+◌, vec_len, All}
use Rattle.mta_shared.specs.Passes.{lock_of, IsReady}
use Rattle.mta_bench.specs.Parts.{IsPart}
use Rattle.mta_bench.proofs.shared.gather.Given as goal

abbrev pub invariant-loop-pass : goal.invariant-loop-pass
invariant-loop-pass l = record {
  ready : IsReady (lock_of l.shared) l.main;
  parts_back : l.main.parts + vec_len l.passes ≡ l.fn.main.parts + vec_len l.fn.passes;
  left : All (IsPart (lock_of l.shared)) l.passes.items;
}

abbrev pub decreases-loop-pass : goal.decreases-loop-pass
decreases-loop-pass l = vec_len l.passes
