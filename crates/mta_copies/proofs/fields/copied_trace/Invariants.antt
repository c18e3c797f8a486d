use Rattle.std.proofs.Common.{◌≡◌, take}
use Rattle.mta_copies.proofs.fields.copied_trace.Given as goal

abbrev pub invariant-loop-element : goal.invariant-loop-element
invariant-loop-element l = l.row ≡ take l.element-index l.trace
