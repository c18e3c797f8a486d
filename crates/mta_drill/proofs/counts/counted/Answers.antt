use Rattle.std.proofs.Common.{◌≡◌, ℕ, ◌+◌, List, length, rules, ap, subst, sym, ◌∙◌, arith}
use Rattle.mta_drill_text.specs.Breaks.{breaks_up_to}
use Rattle.mta_drill_text.specs.Text.{octets_up_to}
use Rattle.mta_machine.specs.Items.{ItemValue}
use Rattle.mta_records.specs.declared.state.MailboxLine.{MailboxLine}
use Rattle.mta_drill.specs.Held.{AreDeliveries, AreMessages, AreSent}
use Rattle.mta_drill.proofs.counts.counted.Goals as goal

pub returns-clause-transferred : goal.returns-clause-transferred
returns-clause-transferred c =
    let sent : c.from.result ≡ c.in_ok-sent.sent = search rules in
    subst (λ (n : ℕ). AreSent c.args.first.now.current.machine.items c.args.before n) (sym sent)
    (subst (λ (xs : List ItemValue). AreSent xs c.args.before c.in_ok-sent.sent) c.items.ensures.exact
    c.in_ok-sent.ensures.sent)

pub returns-clause-whole : goal.returns-clause-whole
returns-clause-whole c = λ first second breaks.
    let before = c.args.before in
    let count = c.args.count in
    let sent : c.in_ok-sent.sent ≡ count =
    c.in_ok-sent.ensures.all
    (omega (arith, ap (λ (xs : List ItemValue). length xs) c.items.ensures.exact, first.items))
    (subst (λ (xs : List ItemValue). AreSent xs before count) (sym c.items.ensures.exact) first.sent) in
    let delivered : c.in_ok-delivered.delivered.messages ≡ count =
    c.in_ok-delivered.ensures.all
    (omega (arith, ap (λ (xs : List ItemValue). length xs) c.items-2.ensures.exact, second.items))
    (omega (arith, ap (λ (xs : List MailboxLine). length xs) c.mailboxes.ensures, second.lines))
    (subst (λ (xs : List ItemValue). AreMessages xs before count) (sym c.items-2.ensures.exact) second.messages)
    (subst (λ (xs : List MailboxLine). AreDeliveries xs count) (sym c.mailboxes.ensures) second.deliveries) in
    let from : c.from.result ≡ c.in_ok-sent.sent = search rules in
    let from-2 : c.from-2.result ≡ c.in_ok-delivered.delivered.messages = search rules in
    let from-3 : c.from-3.result ≡ c.args.broken = search rules in
    record {
      accepted = ap (λ (xs : List ItemValue). length xs) c.items-3.ensures.exact ∙ first.items;
      transferred = from ∙ sent;
      delivered = from-2 ∙ delivered;
      broken = ap (λ (n : ℕ). n + breaks_up_to before) from-3 ∙ breaks;
      octets = c.in_ok-delivered.ensures.octets ∙ ap (λ (n : ℕ). octets_up_to (before + n)) delivered;
    }
