use Rattle.std.proofs.Common.{arith}
use Rattle.std.specs.Vec.Iter.{into_iter_items}
use Rattle.mta_snapshots.proofs.Listing.{coming_first, coming_spelled, coming_next, not_alone, coming_done}
use Rattle.mta_snapshots.proofs.lanes.lanes_begun.Goals as goal

pub loop-recorded-init : goal.loop-recorded-init
loop-recorded-init c =
    coming_first c.args.records.items c.in_ok-lanes.lanes.items (into_iter_items c.into_iter-rest.result)
    c.in_ok-lanes.ensures.items c.into_iter-rest.ensures.rest c.requires

pub is_alone-requires : goal.is_alone-requires
is_alone-requires c =
    coming_spelled c.args.records.items c.loop-recorded.lanes.items (into_iter_items c.loop-recorded.rest)
    (into_iter_items c.next.new.self) c.in-Some.recorded c.in-Some.ensures.cases.0 c.loop-recorded.invariant

pub restore-requires : goal.restore-requires
restore-requires c = (c.is_alone.ensures.0 c.if-not-is_alone.false).whole

pub loop-recorded-preserved : goal.loop-recorded-preserved
loop-recorded-preserved c =
    coming_next c.args.records.items c.loop-recorded.lanes.items (into_iter_items c.loop-recorded.rest)
    (into_iter_items c.next.new.self) c.in-Some.recorded c.in-Some.ensures.cases.0 c.loop-recorded.invariant
    c.push.new.self.items c.is_alone.result c.in_ok-lane.lane c.is_alone.ensures c.if-not-is_alone.false
    c.in_ok-lane.ensures c.in_ok-push.ensures.items

pub returns-then-not-is_alone : goal.returns-then-not-is_alone
returns-then-not-is_alone c =
    not_alone c.args.records.items c.loop-recorded.lanes.items (into_iter_items c.loop-recorded.rest)
    (into_iter_items c.next.new.self) c.in-Some.recorded c.in-Some.ensures.cases.0 c.loop-recorded.invariant
    c.is_alone.result c.is_alone.ensures (λ e. let no = c.if-not-is_alone.true in cc)

pub returns : goal.returns
returns c =
    coming_done c.args.records.items (into_iter_items c.loop-recorded.rest) c.loop-recorded.lanes
    (omega (arith, c.in_default.ensures.cases.0, c.loop-recorded.rest.rest.ok)) c.loop-recorded.invariant
