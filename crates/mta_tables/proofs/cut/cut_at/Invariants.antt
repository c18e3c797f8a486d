use Rattle.std.proofs.Common.{◌≡◌, ◌++◌, take, drop}
use Rattle.mta_tables.specs.Words.{cut_at}
use Rattle.mta_tables.proofs.cut.cut_at.Given as goal

abbrev pub invariant-loop-i : goal.invariant-loop-i
invariant-loop-i l = ((cut_at l.separator l.text).0 ≡ take l.i l.text ++ (cut_at l.separator (drop l.i l.text)).0)
    × ((cut_at l.separator l.text).1 ≡ (cut_at l.separator (drop l.i l.text)).1)
