use Rattle.std.proofs.Common.{◌≡◌, ◌++◌}
use Rattle.mta_name_text.specs.Made.{values_of}
use Rattle.mta_name_text.proofs.made.values_of.Given as goal

abbrev pub invariant-loop-part : goal.invariant-loop-part
invariant-loop-part l = l.row ++ values_of l.part-iterator.rest.items ≡ values_of l.fn.parts
