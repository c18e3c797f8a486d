use Rattle.mta_table_rules.proofs.Walking.{AreOthers}
use Rattle.mta_table_rules.proofs.passing.first_walk.Given as goal

abbrev pub invariant-loop-item : goal.invariant-loop-item
invariant-loop-item l = AreOthers l.report l.list l.items l.item-index
