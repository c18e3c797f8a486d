use Rattle.mta_drill.specs.Calls.{Is_empty}
use Rattle.mta_drill.proofs.Reopened.{was_got, was_sent}
use Rattle.mta_drill.proofs.round.run_round.Goals as goal

pub opened-requires : goal.opened-requires
opened-requires c = record { openable = Is_empty c.requires.first }

pub opened-requires-2 : goal.opened-requires-2
opened-requires-2 c = record { openable = Is_empty c.requires.second }

pub reopened-requires : goal.reopened-requires
reopened-requires c =
    let before = c.args.before in
    let count = c.args.count in
    let begun = c.in_ok-sender.ensures in
    let other = c.in_ok-receiver.ensures in
    let w = c.in_ok-broken.ensures c.requires.few begun.works (begun.begun c.requires.first) other.works
    (other.begun c.requires.second) in
    record {
      fits = c.requires.fits;
      first = was_sent c.worked.new.first w.first_works before count c.end.result c.end.ensures w.accepted;
      second = was_got c.worked.new.second w.second_works before count c.end-2.result c.end-2.ensures w.got;
      breaks = w.breaks;
    }
