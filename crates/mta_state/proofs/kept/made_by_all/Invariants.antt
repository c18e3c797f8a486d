use Rattle.std.proofs.Common.{◌≡◌, ◌≤◌, take}
use Rattle.mta_state.specs.Kept.{made_by_all}
use Rattle.mta_state.proofs.kept.made_by_all.Given as goal

abbrev pub invariant-loop-settlement : goal.invariant-loop-settlement
invariant-loop-settlement l = record {
  is : l.count ≡ made_by_all (take l.settlement-index l.settlements);
  most : l.count ≤ l.settlement-index;
}
