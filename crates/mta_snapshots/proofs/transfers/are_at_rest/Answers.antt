use Rattle.std.proofs.Common.{◌≡◌, true, false, List, subst}
use Rattle.std.specs.Prelude.{◌↔◌}
use Rattle.mta_histories.specs.Lanes.{EachLane}
use Rattle.mta_records.specs.State.{Lane}
use Rattle.mta_state.specs.Kept.{state_of}
use Rattle.mta_snapshots.specs.Fits.{IsAtRest}
use Rattle.mta_snapshots.proofs.Each.{lanes_still, lanes_never, lanes_done}
use Rattle.mta_snapshots.proofs.transfers.are_at_rest.Goals as goal

pub loop-lane-preserved : goal.loop-lane-preserved
loop-lane-preserved g c =
    lanes_still (IsAtRest (state_of c.args.kept.now)) c.as_slice-lane-items.result.now c.loop-lane.lane-index
    c.lane-item.result c.in_ok-is_at_rest.field-0 c.loop-lane-test.true c.lane-item.is
    c.in_ok-is_at_rest.ensures
    c.if-not-branch.false c.loop-lane.invariant

pub returns-then-not-branch : goal.returns-then-not-branch
returns-then-not-branch g c =
    subst (λ (xs : List Lane). (false ≡ true) ↔ EachLane (IsAtRest (state_of c.args.kept.now)) xs)
    c.as_slice-lane-items.ensures.value
    (lanes_never (IsAtRest (state_of c.args.kept.now)) c.as_slice-lane-items.result.now c.loop-lane.lane-index
    c.lane-item.result c.in_ok-is_at_rest.field-0 c.loop-lane-test.true c.lane-item.is
    c.in_ok-is_at_rest.ensures
    c.if-not-branch.true c.loop-lane.invariant)

pub returns : goal.returns
returns g c =
    subst (λ (xs : List Lane). (true ≡ true) ↔ EachLane (IsAtRest (state_of c.args.kept.now)) xs)
    c.as_slice-lane-items.ensures.value
    (lanes_done (IsAtRest (state_of c.args.kept.now)) c.as_slice-lane-items.result.now c.loop-lane.lane-index
    c.loop-lane-test.false c.loop-lane.invariant)
