use Rattle.mta_snapshots.proofs.Taking.{each_next, each_never_free, each_free}
use Rattle.mta_snapshots.proofs.once.take_each.Goals as goal

pub loop-lane-preserved : goal.loop-lane-preserved
loop-lane-preserved c =
    each_next c.args.marks.now c.loop-lane.marks c.args.lanes.now c.loop-lane.lane-index c.lane-item.result
    c.take_for.result c.loop-lane-test.true c.lane-item.is c.take_for.ensures.exact c.loop-lane.invariant
    c.take_for.new.marks (c.take_for.ensures.gone c.if-not-take_for.false) c.if-not-take_for.false

pub returns-then-not-take_for : goal.returns-then-not-take_for
returns-then-not-take_for c =
    each_never_free c.args.marks.now c.loop-lane.marks c.args.lanes.now c.loop-lane.lane-index c.lane-item.result
    c.take_for.result c.loop-lane-test.true c.lane-item.is c.take_for.ensures.exact c.loop-lane.invariant
    c.if-not-take_for.true

pub returns : goal.returns
returns c =
    each_free c.args.marks.now c.loop-lane.marks c.args.lanes.now c.loop-lane.lane-index c.loop-lane-test.false
    c.loop-lane.invariant
