use Rattle.std.proofs.Common.{◌≡◌, ◌+◌, ℕ, Some, length, sym, ap, ◌∙◌, arith}
use Rattle.mta_apdu.specs.Apdus.{apdu_value}
use Rattle.mta_idle_laws.specs.Next.{next_under}
use Rattle.mta_idle_laws.specs.Spans.{span_under}
use Rattle.mta_state.specs.declared.rest.Rest.{Rest}
use Rattle.mta_table_rules.proofs.IdleItems.{wait_further}
use Rattle.mta_table_rules.proofs.Rests.{all_wait, not_idle, waits_so}
use Rattle.mta_table_rules.proofs.rest.rest_under.Goals as goal

pub returns-then-called : goal.returns-then-called
returns-then-called c =
    let t = c.args.tables.now in
    let v = apdu_value c.args.apdu.now in
    let n = c.loop-recipient.recipient in
    not_idle c.args.format t v c.args.item.now c.args.moment (n + 1) c.in_ok-called.called c.in_ok-called.ensures
    c.if-called.true

pub loop-recipient-preserved : goal.loop-recipient-preserved
loop-recipient-preserved c =
    let t = c.args.tables.now in
    let v = apdu_value c.args.apdu.now in
    let item = c.args.item.now in
    let n = c.loop-recipient.recipient in
    record {
      within = omega (arith, c.loop-recipient-test.true);
      wait = wait_further c.args.format t v item n c.args.moment c.loop-recipient.invariant.wait
          (waits_so c.args.format t v item c.args.moment (n + 1) c.in_ok-called.called c.in_ok-called.ensures
          c.if-called.false);
    }

pub returns : goal.returns
returns c =
    let t = c.args.tables.now in
    let v = apdu_value c.args.apdu.now in
    let item = c.args.item.now in
    let same : length c.statuses.result.now ≡ length item.statuses = ap length c.statuses.ensures in
    let rest : Rest = record { until = c.in-Some.until; span = c.span_under-span.result } in
    all_wait c.args.format t v item c.args.moment c.loop-recipient.recipient rest
    (omega (arith, c.loop-recipient-test.false, same)) c.loop-recipient.invariant.wait
    (ap (λ (a : ℕ). next_under c.args.format (Some t) (Some v) a c.args.moment) (sym c.arrival.ensures)
    ∙ sym c.next_under.ensures ∙ c.in-Some.is)
    (c.span_under-span.ensures
    ∙ ap (λ (a : ℕ). span_under c.args.format (Some t) (Some v) a) c.arrival-2.ensures)
