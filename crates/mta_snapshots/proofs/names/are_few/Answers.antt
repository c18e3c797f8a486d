use Rattle.std.proofs.Common.{◌≡◌, true, false, List, subst}
use Rattle.std.specs.Prelude.{◌↔◌}
use Rattle.std.specs.List.{AllByRecursion}
use Rattle.mta_records.specs.State.{Lane}
use Rattle.mta_snapshots.proofs.Naming.{few_is}
use Rattle.mta_snapshots.specs.Names.{IsWithFew}
use Rattle.mta_snapshots.proofs.Each.{all_still, all_never, all_done}
use Rattle.mta_snapshots.proofs.names.are_few.Goals as goal

pub loop-lane-preserved : goal.loop-lane-preserved
loop-lane-preserved c =
    all_still (IsWithFew c.args.lanes.now.open_lanes.items) c.as_slice-lane-items.result.now c.loop-lane.lane-index
    c.lane-item.result c.is_with_few.result c.loop-lane-test.true c.lane-item.is
    c.is_with_few.ensures
    c.if-not-is_with_few.false c.loop-lane.invariant

pub returns-then-not-is_with_few : goal.returns-then-not-is_with_few
returns-then-not-is_with_few c =
    few_is false c.args.lanes.now.open_lanes.items
    (subst (λ (xs : List Lane). (false ≡ true) ↔ AllByRecursion (IsWithFew c.args.lanes.now.open_lanes.items) xs)
    c.as_slice-lane-items.ensures.value
    (all_never (IsWithFew c.args.lanes.now.open_lanes.items) c.as_slice-lane-items.result.now c.loop-lane.lane-index
    c.lane-item.result c.is_with_few.result c.loop-lane-test.true c.lane-item.is
    c.is_with_few.ensures
    c.if-not-is_with_few.true c.loop-lane.invariant))

pub returns : goal.returns
returns c =
    few_is true c.args.lanes.now.open_lanes.items
    (subst (λ (xs : List Lane). (true ≡ true) ↔ AllByRecursion (IsWithFew c.args.lanes.now.open_lanes.items) xs)
    c.as_slice-lane-items.ensures.value
    (all_done (IsWithFew c.args.lanes.now.open_lanes.items) c.as_slice-lane-items.result.now c.loop-lane.lane-index
    c.loop-lane-test.false c.loop-lane.invariant))
