use Rattle.mta_snapshots.proofs.Recording.{codes_next, codes_done}
use Rattle.mta_snapshots.proofs.codes.codes_of.Goals as goal

pub loop-status-preserved : goal.loop-status-preserved
loop-status-preserved c =
    codes_next c.args.statuses.now c.loop-status.status-index c.loop-status.codes.items c.push_code.new.codes.items
    c.status-item.result c.loop-status-test.true c.status-item.is c.loop-status.invariant c.in_ok-push_code.ensures

pub returns : goal.returns
returns c =
    codes_done c.args.statuses.now c.loop-status.status-index c.loop-status.codes.items c.loop-status-test.false
    c.loop-status.invariant
