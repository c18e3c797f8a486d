use Rattle.mta_snapshots.proofs.Naming.{naming_first, naming_next, naming_done}
use Rattle.mta_snapshots.proofs.marks.Flags.named.Goals as goal

pub loop-line-init : goal.loop-line-init
loop-line-init c = naming_first c.args.count c.args.lines.now c.in_ok-flags.flags c.in_ok-flags.ensures

pub loop-line-preserved : goal.loop-line-preserved
loop-line-preserved c =
    naming_next c.args.count c.args.lines.now c.loop-line.flags c.mark.new.self c.loop-line.line-index
    c.line-item.result c.loop-line-test.true c.line-item.is c.loop-line.invariant c.mark.ensures

pub returns : goal.returns
returns c =
    naming_done c.args.count c.args.lines.now c.loop-line.flags c.loop-line.line-index c.loop-line-test.false
    c.loop-line.invariant
