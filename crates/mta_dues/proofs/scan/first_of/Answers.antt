use Rattle.std.proofs.Common.{◌≡◌, ◌+◌, Option, length, ap, subst, arith}
use Rattle.mta_records.specs.declared.step.Step.{Step}
use Rattle.mta_state.specs.Kept.{state_of}
use Rattle.mta_dues.specs.Answers.{IsDueOf}
use Rattle.mta_dues.proofs.Scans.{none_further, no_recipient}
use Rattle.mta_dues.proofs.scan.first_of.Goals as goal

pub loop-recipient-preserved : goal.loop-recipient-preserved
loop-recipient-preserved g c = record {
  none = none_further (state_of c.args.kept.now) c.args.number c.loop-recipient.recipient c.args.moment
      c.loop-recipient.invariant.none
      (subst
      (λ (d : Option Step).
      IsDueOf (state_of c.args.kept.now) c.args.number (c.loop-recipient.recipient + 1) c.args.moment d)
      c.in-None.is c.in_ok-due_of.ensures);
}

pub returns : goal.returns
returns g c =
    let same : length c.statuses.result.now ≡ length c.args.item.now.statuses = ap length c.statuses.ensures in
    no_recipient (state_of c.args.kept.now) c.args.number c.loop-recipient.recipient c.args.moment c.args.item.now
    c.requires.kept c.requires.item (omega (arith, c.loop-recipient-test.false, same)) c.loop-recipient.invariant.none
