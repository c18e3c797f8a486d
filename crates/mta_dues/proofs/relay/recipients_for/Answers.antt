use Rattle.std.proofs.Common.{◌≡◌, ◌+◌, ℕ, List, length, sym, ap, subst, arith}
use Rattle.mta_state.specs.Kept.{state_of}
use Rattle.mta_dues.specs.Answers.{AreRelayed, AreRelayedUpTo}
use Rattle.mta_dues.proofs.Relays.{relays_further, relays_one_more, all_relays, unrelayed_unpending}
use Rattle.mta_dues.proofs.relay.recipients_for.Goals as goal

pub returns-then-not-pending : goal.returns-then-not-pending
returns-then-not-pending g c =
    subst
    (λ (xs : List ℕ). AreRelayed (state_of c.args.kept.now) c.args.peer.now c.args.moment c.args.number xs)
    (sym c.new.ensures.items)
    (unrelayed_unpending (state_of c.args.kept.now) c.args.peer.now c.args.moment c.args.number c.args.item.now
    c.requires.item
    (λ has. let does = c.has_pending-pending.ensures.1 has in let never = c.if-not-pending.true in absurd cc))

pub loop-recipient-preserved-in-Continue-branch-3 : goal.loop-recipient-preserved-in-Continue-branch-3
loop-recipient-preserved-in-Continue-branch-3 g c = record {
  within = omega (arith, c.loop-recipient-test.true);
  are = subst
      (λ (xs : List ℕ).
      AreRelayedUpTo (state_of c.args.kept.now) c.args.peer.now c.args.moment c.args.number
      (c.loop-recipient.recipient + 1) xs)
      (sym c.in_ok-push.ensures.items)
      (relays_one_more (state_of c.args.kept.now) c.args.peer.now c.args.moment c.args.number
      c.loop-recipient.recipient c.loop-recipient.recipients.items c.in_ok-is_to_relay.field-0
      c.loop-recipient.invariant.are c.if-branch.true c.in_ok-is_to_relay.ensures);
}

pub loop-recipient-preserved : goal.loop-recipient-preserved
loop-recipient-preserved g c = record {
  within = omega (arith, c.loop-recipient-test.true);
  are = relays_further (state_of c.args.kept.now) c.args.peer.now c.args.moment c.args.number
      c.loop-recipient.recipient c.loop-recipient.recipients.items c.in_ok-is_to_relay.field-0
      c.loop-recipient.invariant.are c.if-branch.false c.in_ok-is_to_relay.ensures;
}

pub returns : goal.returns
returns g c =
    let same : length c.statuses.result.now ≡ length c.args.item.now.statuses = ap length c.statuses.ensures in
    all_relays (state_of c.args.kept.now) c.args.peer.now c.args.moment c.args.number c.loop-recipient.recipient
    c.args.item.now c.loop-recipient.recipients.items c.requires.item
    (omega (arith, c.loop-recipient-test.false, same)) c.loop-recipient.invariant.are
