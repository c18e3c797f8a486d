use Rattle.std.proofs.Common.{◌≡◌, length, take}
use Rattle.std.specs.Prelude.{flat_map}
use Rattle.mta_records.specs.Sizes.{capped}
use Rattle.mta_records.proofs.lists.values_size.Given as goal

-- the octets of the values so far are counted
abbrev pub invariant-loop-value : goal.invariant-loop-value
invariant-loop-value g l =
    l.size ≡ capped (length (flat_map (g.F.Field.spelled l.two) (take l.value-index l.values)))
