use Rattle.std.proofs.Common.{refl}
use Rattle.mta_snapshots.proofs.Naming.{apart_still, apart_never, apart_done}
use Rattle.mta_snapshots.proofs.names.are_apart.Goals as goal

pub loop-place-preserved : goal.loop-place-preserved
loop-place-preserved c = record {
  count = refl;
  same = apart_still c.args.lanes.now c.loop-place.place c.index-lanes-place.result c.is_apart_from.result
      c.loop-place-test.true c.index-lanes-place.is c.is_apart_from.ensures c.if-not-is_apart_from.false
      c.loop-place.invariant.same;
}

pub returns-then-not-is_apart_from : goal.returns-then-not-is_apart_from
returns-then-not-is_apart_from c =
    apart_never c.args.lanes.now c.loop-place.place c.index-lanes-place.result c.is_apart_from.result
    c.loop-place-test.true c.index-lanes-place.is c.is_apart_from.ensures c.if-not-is_apart_from.true
    c.loop-place.invariant.same

pub returns : goal.returns
returns c =
    apart_done c.args.lanes.now c.loop-place.place c.loop-place-test.false c.loop-place.invariant.same
