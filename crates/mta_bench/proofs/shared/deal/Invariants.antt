use Rattle.std.proofs.Common.{◌≡◌, ◌+◌, vec_len, vec_capacity, All}
use Rattle.mta_shared.specs.Passes.{lock_of, IsReady}
use Rattle.mta_bench.specs.Parts.{IsPart}
use Rattle.mta_bench.proofs.shared.deal.Given as goal

abbrev pub invariant-loop : goal.invariant-loop
invariant-loop l = record {
  ready : IsReady (lock_of l.shared) l.main;
  count : vec_len l.passes ≡ l.counter;
  parts_left : l.main.parts + l.counter ≡ l.fn.main.parts;
  room : vec_capacity l.passes ≡ vec_capacity l.fn.passes;
  dealt : All (IsPart (lock_of l.shared)) l.passes.items;
}
