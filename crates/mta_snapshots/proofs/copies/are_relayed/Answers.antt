use Rattle.std.proofs.Common.{◌≡◌, ℕ, Some}
use Rattle.mta_machine.specs.Machine.{relay_by}
use Rattle.mta_machine.specs.Rules.{verdict_of}
use Rattle.mta_snapshots.proofs.Recipients.{named_still, named_never, named_done}
use Rattle.mta_snapshots.proofs.copies.are_relayed.Goals as goal

pub loop-recipient-preserved : goal.loop-recipient-preserved
loop-recipient-preserved g c =
    named_still (λ (r : ℕ). relay_by (g.R.Rules.text c.args.rules.now)
    (verdict_of (g.R.Rules.format c.args.rules.now) (g.R.Rules.text c.args.rules.now) c.args.item.now.octets
    c.args.item.now.arrival r c.args.moment)
    ≡ Some c.args.peer.now) c.args.recipients.now c.loop-recipient.recipient-index
    c.in_ok-is_relayed.field-0 c.loop-recipient-test.true
    c.in_ok-is_relayed.ensures
    c.if-not-branch.false c.loop-recipient.invariant

pub returns-then-not-branch : goal.returns-then-not-branch
returns-then-not-branch g c =
    named_never (λ (r : ℕ). relay_by (g.R.Rules.text c.args.rules.now)
    (verdict_of (g.R.Rules.format c.args.rules.now) (g.R.Rules.text c.args.rules.now) c.args.item.now.octets
    c.args.item.now.arrival r c.args.moment)
    ≡ Some c.args.peer.now) c.args.recipients.now c.loop-recipient.recipient-index
    c.in_ok-is_relayed.field-0 c.loop-recipient-test.true
    c.in_ok-is_relayed.ensures
    c.if-not-branch.true c.loop-recipient.invariant

pub returns : goal.returns
returns g c =
    named_done (λ (r : ℕ). relay_by (g.R.Rules.text c.args.rules.now)
    (verdict_of (g.R.Rules.format c.args.rules.now) (g.R.Rules.text c.args.rules.now) c.args.item.now.octets
    c.args.item.now.arrival r c.args.moment)
    ≡ Some c.args.peer.now) c.args.recipients.now c.loop-recipient.recipient-index
    c.loop-recipient-test.false c.loop-recipient.invariant
