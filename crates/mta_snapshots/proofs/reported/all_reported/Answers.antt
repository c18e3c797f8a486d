use Rattle.std.proofs.Common.{◌≡◌, true, ℕ}
use Rattle.mta_snapshots.proofs.Each.{truth}
use Rattle.mta_machine.specs.Items.{is_reported_at}
use Rattle.mta_state.specs.Parts.{machine_of}
use Rattle.mta_snapshots.proofs.Recipients.{named_still, named_never, named_done}
use Rattle.mta_snapshots.proofs.reported.all_reported.Goals as goal

pub loop-recipient-preserved : goal.loop-recipient-preserved
loop-recipient-preserved c =
    named_still (λ (r : ℕ). is_reported_at (machine_of c.args.parts.now) c.args.item r ≡ true) c.args.recipients.now
    c.loop-recipient.recipient-index
    c.is_reported.result c.loop-recipient-test.true
    (truth c.is_reported.result _ c.is_reported.ensures)
    c.if-not-is_reported.false c.loop-recipient.invariant

pub returns-then-not-is_reported : goal.returns-then-not-is_reported
returns-then-not-is_reported c =
    named_never (λ (r : ℕ). is_reported_at (machine_of c.args.parts.now) c.args.item r ≡ true) c.args.recipients.now
    c.loop-recipient.recipient-index
    c.is_reported.result c.loop-recipient-test.true
    (truth c.is_reported.result _ c.is_reported.ensures)
    c.if-not-is_reported.true c.loop-recipient.invariant

pub returns : goal.returns
returns c =
    named_done (λ (r : ℕ). is_reported_at (machine_of c.args.parts.now) c.args.item r ≡ true) c.args.recipients.now
    c.loop-recipient.recipient-index
    c.loop-recipient-test.false c.loop-recipient.invariant
