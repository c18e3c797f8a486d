use Rattle.mta_histories.specs.Sound.{IsInTime}
use Rattle.mta_snapshots.proofs.Each.{all_still, all_never, all_done}
use Rattle.mta_snapshots.proofs.statuses.are_in_time.Goals as goal

pub loop-status-preserved : goal.loop-status-preserved
loop-status-preserved c =
    all_still (IsInTime c.args.moment) c.args.statuses.now c.loop-status.status-index c.status-item.result
    c.is_in_time.result c.loop-status-test.true c.status-item.is c.is_in_time.ensures c.if-not-is_in_time.false
    c.loop-status.invariant

pub returns-then-not-is_in_time : goal.returns-then-not-is_in_time
returns-then-not-is_in_time c =
    all_never (IsInTime c.args.moment) c.args.statuses.now c.loop-status.status-index c.status-item.result
    c.is_in_time.result c.loop-status-test.true c.status-item.is c.is_in_time.ensures c.if-not-is_in_time.true
    c.loop-status.invariant

pub returns : goal.returns
returns c =
    all_done (IsInTime c.args.moment) c.args.statuses.now c.loop-status.status-index c.loop-status-test.false
    c.loop-status.invariant
