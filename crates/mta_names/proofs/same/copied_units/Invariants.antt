use Rattle.std.proofs.Common.{◌≡◌, take}
use Rattle.mta_names.proofs.same.copied_units.Given as goal

abbrev pub invariant-loop-unit : goal.invariant-loop-unit
invariant-loop-unit l = l.row ≡ take l.unit-index l.units
