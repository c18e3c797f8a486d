use Rattle.mta_snapshots.specs.Names.{IsApartFrom}
use Rattle.mta_snapshots.proofs.Each.{lanes_still, lanes_never, lanes_done}
use Rattle.mta_snapshots.proofs.names.is_apart_from.Goals as goal

pub loop-other-preserved : goal.loop-other-preserved
loop-other-preserved c =
    lanes_still (IsApartFrom c.args.lane.now) c.args.others.now c.loop-other.other-index c.other-item.result
    c.is_apart.result c.loop-other-test.true c.other-item.is c.is_apart.ensures c.if-not-is_apart.false
    c.loop-other.invariant

pub returns-then-not-is_apart : goal.returns-then-not-is_apart
returns-then-not-is_apart c =
    lanes_never (IsApartFrom c.args.lane.now) c.args.others.now c.loop-other.other-index c.other-item.result
    c.is_apart.result c.loop-other-test.true c.other-item.is c.is_apart.ensures c.if-not-is_apart.true
    c.loop-other.invariant

pub returns : goal.returns
returns c =
    lanes_done (IsApartFrom c.args.lane.now) c.args.others.now c.loop-other.other-index c.loop-other-test.false
    c.loop-other.invariant
