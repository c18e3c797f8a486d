use Rattle.mta_replay.proofs.Starting.{start_changes}
use Rattle.mta_replay.proofs.start.prepare_start.Goals as goal

pub returns-in-Some : goal.returns-in-Some
returns-in-Some g c =
    start_changes c.args.kept.now c.args.lane c.args.generation c.args.activity c.args.item c.args.recipients.now
    c.args.moment c.is_next.result c.in-Some.transfer c.start_change.result c.is_next.ensures c.if-not-is_next.false
    (rw c.in-Some.is at c.in_ok-found.ensures) c.start_change.ensures c.ranges.activity.fits c.requires.numbers
