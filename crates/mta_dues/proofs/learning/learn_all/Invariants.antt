use Rattle.std.proofs.Common.{◌-◌, length}
use Rattle.mta_dues.specs.Index.{IsIndexed}
use Rattle.mta_dues.proofs.learning.learn_all.Given as goal

abbrev pub invariant-loop-alloc : goal.invariant-loop-alloc
invariant-loop-alloc g l = record {
  indexed : IsIndexed (g.R.Rules.format l.rules) (g.R.Rules.text l.rules) l.kept.parts.items.items l.index;
}

abbrev pub decreases-loop-alloc : goal.decreases-loop-alloc
decreases-loop-alloc g l = length l.kept.parts.items.items - length l.index.spans
