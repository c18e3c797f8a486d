use Rattle.std.proofs.Common.{◌≡◌, ◌++◌, drop}
use Rattle.std.specs.List.{AllByRecursion}
use Rattle.std.specs.Prelude.{flat_map}
use Rattle.mta_records.proofs.lists.put_values.Given as goal

-- what is written and the values that are left are all, and those that are left fit
abbrev pub invariant-loop-value : goal.invariant-loop-value
invariant-loop-value g l = record {
  written : l.out ++ flat_map (g.F.Field.spelled l.two) (drop l.value-index l.values)
      ≡ l.fn.out ++ flat_map (g.F.Field.spelled l.two) l.values;
  fit : AllByRecursion (g.F.Field.Fits l.two) (drop l.value-index l.values);
}
