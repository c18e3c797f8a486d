use Rattle.std.proofs.Common.{◌≤◌, length, drop}
use Rattle.mta_tables.specs.Grammar.{HasNo}
use Rattle.mta_tables.proofs.cut.cut_last.Given as goal

abbrev pub invariant-loop-i : goal.invariant-loop-i
invariant-loop-i l = (l.i ≤ length l.text) × HasNo l.separator (drop l.i l.text)

abbrev pub decreases-loop-i : goal.decreases-loop-i
decreases-loop-i l = l.i
