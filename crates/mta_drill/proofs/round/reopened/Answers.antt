use Rattle.mta_drill.proofs.Holding.{delivered_again, sent_again}
use Rattle.mta_drill.proofs.Reopened.{got_opens, has_delivered, has_sent, sent_opens}
use Rattle.mta_drill.proofs.round.reopened.Goals as goal

pub opened-requires : goal.opened-requires
opened-requires c = record {
  openable = sent_opens c.args.first.octets c.args.before c.args.count c.requires.first;
}

pub opened-requires-2 : goal.opened-requires-2
opened-requires-2 c = record {
  openable = got_opens c.args.second.octets c.args.before c.args.count c.requires.second;
}

pub returns : goal.returns
returns c =
    let before = c.args.before in
    let count = c.args.count in
    let was = c.requires.first in
    let got = c.requires.second in
    let first = c.in_ok-first.first in
    let second = c.in_ok-second.second in
    let sent = sent_again before count was.steps first.current was.accepted
    (c.in_ok-first.ensures.again was.steps was.stands was.accepted.format) in
    let delivered = delivered_again before count got.steps second.current got.got
    (c.in_ok-second.ensures.again got.steps got.stands got.got.format) in
    record {
      whole = c.in_ok-counts.ensures.whole sent delivered c.requires.breaks;
      sent = has_sent first c.in_ok-first.ensures.works.history before count c.end.result c.end.ensures sent;
      delivered = has_delivered second c.in_ok-second.ensures.works.history before count c.end-2.result
          c.end-2.ensures delivered;
    }
