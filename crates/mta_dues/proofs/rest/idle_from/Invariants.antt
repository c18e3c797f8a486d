use Rattle.std.proofs.Common.{◌-◌}
use Rattle.mta_dues.specs.Looked.{AreIdleUpTo}
use Rattle.mta_dues.proofs.rest.idle_from.Given as goal

abbrev pub invariant-loop-most : goal.invariant-loop-most
invariant-loop-most g l = record {
  idle : AreIdleUpTo (g.R.Rules.format l.rules) (g.R.Rules.text l.rules) l.item l.most l.moment;
}

abbrev pub decreases-loop-most : goal.decreases-loop-most
decreases-loop-most g l = l.count - l.most
