use Rattle.std.proofs.Common.{◌+◌, ◌<◌, ◌^◌, List, sym, subst, arith}
use Rattle.mta_queue.specs.declared.mark.Mark.{Mark}
use Rattle.mta_replay.specs.Queued.{IsRow}
use Rattle.mta_replay.proofs.Rowed.{row_more}
use Rattle.mta_replay.proofs.queued.row_read.Goals as goal

pub loop-recipient-preserved : goal.loop-recipient-preserved
loop-recipient-preserved g c =
    let text = g.R.Rules.text c.args.rules.now in
    let words = c.args.queues.now.words in
    let octets = c.args.item.now.octets in
    let n = c.loop-recipient.recipient in
    let few : n + 1 < 2 ^ 32 = omega arith in
    record {
      within = omega arith;
      row = subst (λ (row : List Mark). IsRow text words octets (n + 1) row) (sym c.in_ok-push.ensures.ok)
          (row_more text words octets n c.loop-recipient.row c.route_of.result c.loop-recipient.invariant.row few
          c.route_of.ensures);
    }
