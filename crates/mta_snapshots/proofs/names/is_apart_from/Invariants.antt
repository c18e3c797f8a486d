use Rattle.std.proofs.Common.{drop}
use Rattle.std.specs.Prelude.{◌↔◌}
use Rattle.mta_histories.specs.Lanes.{EachLane}
use Rattle.mta_snapshots.specs.Names.{IsApartFrom}
use Rattle.mta_snapshots.proofs.names.is_apart_from.Given as goal

abbrev pub invariant-loop-other : goal.invariant-loop-other
invariant-loop-other l =
    EachLane (IsApartFrom l.lane) l.others ↔ EachLane (IsApartFrom l.lane) (drop l.other-index l.others)
