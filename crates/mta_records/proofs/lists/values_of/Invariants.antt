use Rattle.std.proofs.Common.{◌≡◌, ◌-◌}
use Rattle.mta_records.specs.Form.{values_at}
use Rattle.mta_records.proofs.Values.{read_before}
use Rattle.mta_records.proofs.lists.values_of.Given as goal

-- the values read so far and those that are left are all
abbrev pub invariant-loop : goal.invariant-loop
invariant-loop g l =
    read_before l.values.items (values_at (g.F.Field.at l.two) (l.count - l.counter) l.rest)
    ≡ values_at (g.F.Field.at l.two) l.count l.octets
