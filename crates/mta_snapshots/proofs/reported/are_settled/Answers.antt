use Rattle.mta_histories.specs.Kept.{IsDroppedReported}
use Rattle.mta_state.specs.Parts.{machine_of}
use Rattle.mta_snapshots.proofs.Each.{lanes_still, lanes_never, lanes_done}
use Rattle.mta_snapshots.proofs.reported.are_settled.Goals as goal

pub loop-lane-preserved : goal.loop-lane-preserved
loop-lane-preserved c =
    lanes_still (IsDroppedReported (machine_of c.args.parts.now)) c.args.lanes.now c.loop-lane.lane-index
    c.lane-item.result c.is_settled.result c.loop-lane-test.true c.lane-item.is c.is_settled.ensures
    c.if-not-is_settled.false c.loop-lane.invariant

pub returns-then-not-is_settled : goal.returns-then-not-is_settled
returns-then-not-is_settled c =
    lanes_never (IsDroppedReported (machine_of c.args.parts.now)) c.args.lanes.now c.loop-lane.lane-index
    c.lane-item.result c.is_settled.result c.loop-lane-test.true c.lane-item.is c.is_settled.ensures
    c.if-not-is_settled.true c.loop-lane.invariant

pub returns : goal.returns
returns c =
    lanes_done (IsDroppedReported (machine_of c.args.parts.now)) c.args.lanes.now c.loop-lane.lane-index
    c.loop-lane-test.false c.loop-lane.invariant
