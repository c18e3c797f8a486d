use Rattle.std.proofs.Common.{◌∙◌}
use Rattle.mta_snapshots.proofs.Recording.{items_next, items_done}
use Rattle.mta_snapshots.proofs.recorded.items_of.Goals as goal

pub loop-place-preserved : goal.loop-place-preserved
loop-place-preserved c =
    items_next c.args.lines.now c.args.items.now c.loop-place.place c.loop-place.records.items c.loop-place.invariant
    c.push.new.self.items c.index-items-place.result c.in_ok-recorded.recorded c.at.result c.loop-place-test.true
    c.index-items-place.is
    (c.at.ensures
    ∙ c.in_ok-named.ensures c.loop-place.place c.loop-place-test.true)
    c.in_ok-recorded.ensures c.in_ok-push.ensures.items

pub returns : goal.returns
returns c =
    items_done c.args.lines.now c.args.items.now c.loop-place.place c.loop-place.records.items c.loop-place.invariant
    c.loop-place-test.false
