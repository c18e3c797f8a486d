use Rattle.std.proofs.Common.{drop}
use Rattle.std.specs.Prelude.{◌↔◌}
use Rattle.mta_histories.specs.Lanes.{EachLane}
use Rattle.mta_state.specs.Kept.{state_of}
use Rattle.mta_snapshots.specs.Fits.{IsAtRest}
use Rattle.mta_snapshots.proofs.transfers.are_at_rest.Given as goal

abbrev pub invariant-loop-lane : goal.invariant-loop-lane
invariant-loop-lane g l =
    EachLane (IsAtRest (state_of l.kept)) l.lane-items
    ↔ EachLane (IsAtRest (state_of l.kept)) (drop l.lane-index l.lane-items)
