use Rattle.std.proofs.Common.{◌≡◌, take}
use Rattle.mta_journal.specs.declared.read.TheConstants.{MAGIC}
use Rattle.mta_journal.proofs.read.first_other.Given as goal

abbrev pub invariant-loop-at : goal.invariant-loop-at
invariant-loop-at l = take l.at l.head ≡ take l.at MAGIC
