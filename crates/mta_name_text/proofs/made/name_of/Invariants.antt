use Rattle.std.proofs.Common.{◌≡◌}
use Rattle.mta_name_text.specs.Made.{put_all, name_of}
use Rattle.mta_name_text.proofs.made.name_of.Given as goal

abbrev pub invariant-loop-part : goal.invariant-loop-part
invariant-loop-part l = put_all l.n l.part-iterator.rest.items ≡ name_of l.fn.parts
