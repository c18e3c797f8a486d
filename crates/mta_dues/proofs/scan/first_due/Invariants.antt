use Rattle.std.proofs.Common.{◌-◌, ◌^◌, length}
use Rattle.mta_dues.specs.Agendas.{IsAllCalled}
use Rattle.mta_state.specs.Kept.{state_of}
use Rattle.mta_dues.specs.Answers.{NothingDueUpTo}
use Rattle.mta_dues.specs.Index.{IsIndexed}
use Rattle.mta_dues.proofs.scan.first_due.Given as goal

abbrev pub invariant-loop-number : goal.invariant-loop-number
invariant-loop-number g l = record {
  none : NothingDueUpTo (state_of l.kept) l.after l.moment;
  called : IsAllCalled l.index.agenda (length l.kept.parts.items.items) l.moment;
  indexed : IsIndexed (g.R.Rules.format l.rules) (g.R.Rules.text l.rules) l.kept.parts.items.items l.index;
}

abbrev pub decreases-loop-number : goal.decreases-loop-number
decreases-loop-number g l = 2 ^ 32 - l.after
