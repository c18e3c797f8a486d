use Rattle.std.proofs.Common.{◌≡◌, ◌++◌}
use Rattle.mta_names.specs.Values.{Each, IsPair}
use Rattle.mta_name_text.proofs.made.pairs_of.Given as goal

abbrev pub invariant-loop-fields : goal.invariant-loop-fields
invariant-loop-fields l = (l.row ++ l.fields-iterator.rest.items ≡ l.fn.pairs)
    × Each IsPair l.fields-iterator.rest.items
