use Rattle.std.proofs.Common.{◌<◌, ◌^◌, arith, ◌∙◌}
use Rattle.mta_drill.proofs.Summing.{all_whole, text_whole}
use Rattle.mta_drill.proofs.drilling.drill.Goals as goal

pub returns : goal.returns
returns c =
    let n = c.args.messages in
    let passed = c.in_ok-more.ensures in
    let small : n < 2 ^ 32 = omega arith in
    let whole = all_whole c.in_ok-counts.counts c.in_ok-more.field-0.counts c.with.result n small c.requires.some
    c.with.ensures c.in_ok-counts.ensures passed.whole in
    record {
      text = c.in_ok-text.ensures ∙ text_whole c.with.result n whole;
      sent = passed.sent;
      delivered = passed.delivered;
    }
