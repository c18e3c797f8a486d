use Rattle.std.proofs.Common.{◌∙◌, arith, refl, sym}
use Rattle.std.specs.Vec.Iter.{into_iter_items}
use Rattle.mta_snapshots.proofs.Spreading.{spreading_first, spreading_none, spreading_some, too_few, too_many, enough}
use Rattle.mta_snapshots.proofs.statuses.spread.Goals as goal

pub loop-recipient-init : goal.loop-recipient-init
loop-recipient-init c =
    spreading_first c.args.recipients.now c.args.codes.items (into_iter_items c.into_iter-rest.result)
    c.in_ok-statuses.statuses.items c.in_ok-statuses.ensures.items c.into_iter-rest.ensures.rest

pub loop-recipient-preserved : goal.loop-recipient-preserved
loop-recipient-preserved c =
    spreading_some c.args.recipients.now c.args.codes.items c.loop-recipient.statuses.items
    c.push-in-Some.new.self.items (into_iter_items c.loop-recipient.rest) c.loop-recipient.recipient-index
    c.recipient-item.result c.loop-recipient-test.true
    c.recipient-item.is c.loop-recipient.invariant c.in-Some.code (into_iter_items c.next.new.self)
    (sym c.is_given.ensures ∙ c.if-not-is_given.false) c.in-Some.ensures.cases.0
    c.in_ok-push-in-Some.ensures.items

pub loop-recipient-preserved-then-not-is_given : goal.loop-recipient-preserved-then-not-is_given
loop-recipient-preserved-then-not-is_given c =
    spreading_none c.args.recipients.now c.args.codes.items c.loop-recipient.statuses.items
    c.push.new.self.items (into_iter_items c.loop-recipient.rest) c.loop-recipient.recipient-index
    c.recipient-item.result c.loop-recipient-test.true c.recipient-item.is c.loop-recipient.invariant
    (sym c.is_given.ensures ∙ c.if-not-is_given.true) c.in_ok-push.ensures.items

pub returns-in-None : goal.returns-in-None
returns-in-None c =
    too_few c.args.recipients.now c.args.codes.items c.loop-recipient.statuses.items c.loop-recipient.statuses.items
    (into_iter_items c.loop-recipient.rest) c.loop-recipient.recipient-index c.recipient-item.result
    c.loop-recipient-test.true c.recipient-item.is c.loop-recipient.invariant
    (sym c.is_given.ensures ∙ c.if-not-is_given.false)
    (omega (arith, c.in-None.ensures.cases.0, c.loop-recipient.rest.rest.ok))

pub returns-in-None-next : goal.returns-in-None-next
returns-in-None-next c =
    enough c.args.recipients.now c.args.codes.items c.loop-recipient.statuses.items
    (into_iter_items c.loop-recipient.rest) c.loop-recipient.recipient-index c.loop-recipient-test.false
    c.loop-recipient.invariant c.loop-recipient.statuses refl
    (omega (arith, c.in-None-next.ensures.cases.0, c.loop-recipient.rest.rest.ok))

pub returns-in-Some-next : goal.returns-in-Some-next
returns-in-Some-next c =
    too_many c.args.recipients.now c.args.codes.items c.loop-recipient.statuses.items
    (into_iter_items c.loop-recipient.rest) c.loop-recipient.recipient-index c.loop-recipient-test.false
    c.loop-recipient.invariant c.in-Some-next.field-0 (into_iter_items c.next-2.new.self)
    c.in-Some-next.ensures.cases.0
