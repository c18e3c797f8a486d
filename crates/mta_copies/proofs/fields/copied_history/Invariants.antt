use Rattle.std.proofs.Common.{◌≡◌, take}
use Rattle.mta_copies.proofs.fields.copied_history.Given as goal

abbrev pub invariant-loop-expansion : goal.invariant-loop-expansion
invariant-loop-expansion l = l.row ≡ take l.expansion-index l.history
