use Rattle.mta_snapshots.proofs.Taking.{taking_first, taking_next, taking_never, taking_done, taken_gone}
use Rattle.mta_snapshots.proofs.once.take_all.Goals as goal

pub loop-recipient-init : goal.loop-recipient-init
loop-recipient-init c = taking_first c.args.marks.now c.args.item c.args.recipients.now

pub loop-recipient-preserved : goal.loop-recipient-preserved
loop-recipient-preserved c =
    taking_next c.args.marks.now c.loop-recipient.marks c.take.new.self c.args.item c.args.recipients.now
    c.loop-recipient.recipient-index c.take.result c.loop-recipient-test.true c.loop-recipient.invariant
    c.take.ensures.was c.take.ensures.gone c.if-not-take.false

pub returns-then-not-take-clause-exact : goal.returns-then-not-take-clause-exact
returns-then-not-take-clause-exact c =
    taking_never c.args.marks.now c.loop-recipient.marks c.take.new.self c.args.item c.args.recipients.now
    c.loop-recipient.recipient-index c.take.result c.loop-recipient-test.true c.loop-recipient.invariant
    c.take.ensures.was c.if-not-take.true

pub returns-clause-exact : goal.returns-clause-exact
returns-clause-exact c =
    taking_done c.args.marks.now c.loop-recipient.marks c.args.item c.args.recipients.now
    c.loop-recipient.recipient-index c.loop-recipient-test.false c.loop-recipient.invariant

pub returns-clause-gone : goal.returns-clause-gone
returns-clause-gone c e =
    taken_gone c.args.marks.now c.loop-recipient.marks c.args.item c.args.recipients.now
    c.loop-recipient.recipient-index c.loop-recipient-test.false c.loop-recipient.invariant
