use Rattle.std.proofs.Common.{rules}
use Rattle.mta_snapshots.proofs.Ascending.{numbers_next, numbers_never, numbers_done}
use Rattle.mta_snapshots.proofs.numbering.are_numbered.Goals as goal

pub loop-lane-preserved : goal.loop-lane-preserved
loop-lane-preserved c =
    numbers_next c.args.most c.args.lanes.now c.loop-lane.above c.loop-lane.lane-index c.number-number.result
    c.lane-item.result
    c.loop-lane-test.true c.lane-item.is c.number-number.ensures c.loop-lane.invariant c.if-number-above.false

pub returns : goal.returns
returns c =
    numbers_done c.args.most c.args.lanes.now c.loop-lane.above c.loop-lane.lane-index _ c.loop-lane-test.false
    (search rules) c.loop-lane.invariant

pub returns-then-number-above : goal.returns-then-number-above
returns-then-number-above c =
    numbers_never c.args.most c.args.lanes.now c.loop-lane.above c.loop-lane.lane-index c.number-number.result
    c.lane-item.result c.loop-lane-test.true c.lane-item.is c.number-number.ensures c.loop-lane.invariant
    c.if-number-above.true
