use Rattle.std.proofs.Common.{◌+◌, List, Option, sym, subst, get_or, take}
use Rattle.mta_state.specs.Parts.{machine_of}
use Rattle.mta_state.specs.declared.change.Settlement.{Settlement}
use Rattle.mta_replay.specs.Failures.{AreFailed, failure_of, Fails}
use Rattle.mta_replay.proofs.FailedOnes.{failing_goes, failing_stops}
use Rattle.mta_replay.proofs.failing.failed_all.Goals as goal

pub returns-in_default : goal.returns-in_default
returns-in_default g c =
    failing_stops (machine_of c.args.kept.now.parts) (g.R.Rules.text c.args.rules.now) c.args.number c.args.item.now
    (failure_of c.args.failure) c.args.moment c.requires.text c.requires.item c.args.recipients.now
    c.loop-recipient.recipient-index 0 c.loop-recipient.count c.loop-recipient.settlements.items
    c.loop-recipient-test.true c.loop-recipient.invariant
    (subst
    (λ (o : Option Settlement).
    Fails (g.R.Rules.text c.args.rules.now) c.loop-recipient.count c.args.item.now
    (get_or c.args.recipients.now c.loop-recipient.recipient-index 0) (failure_of c.args.failure) c.args.moment o)
    c.in_default.is c.in_ok-settlement.ensures)

pub loop-recipient-preserved : goal.loop-recipient-preserved
loop-recipient-preserved g c =
    subst
    (λ (ss : List Settlement).
    AreFailed (machine_of c.args.kept.now.parts) c.args.number
    (take (c.loop-recipient.recipient-index + 1) c.args.recipients.now) (failure_of c.args.failure) c.args.moment
    (c.loop-recipient.count + c.made_by-count.result) ss)
    (sym c.in_ok-push.ensures.items)
    (failing_goes (machine_of c.args.kept.now.parts) (g.R.Rules.text c.args.rules.now) c.args.number c.args.item.now
    (failure_of c.args.failure) c.args.moment c.requires.text c.requires.item c.args.recipients.now
    c.loop-recipient.recipient-index 0 c.loop-recipient.count c.made_by-count.result
    c.loop-recipient.settlements.items c.in-Some.settlement c.loop-recipient-test.true
    c.made_by-count.ensures.exact c.loop-recipient.invariant
    (subst
    (λ (o : Option Settlement).
    Fails (g.R.Rules.text c.args.rules.now) c.loop-recipient.count c.args.item.now
    (get_or c.args.recipients.now c.loop-recipient.recipient-index 0) (failure_of c.args.failure) c.args.moment o)
    c.in-Some.is c.in_ok-settlement.ensures))
