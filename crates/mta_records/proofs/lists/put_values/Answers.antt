use Rattle.std.proofs.Common.{◌++◌}
use Rattle.std.specs.Prelude.{flat_map}
use Rattle.mta_records.proofs.Listed.{next_fits, next_put, all_put}
use Rattle.mta_records.proofs.lists.put_values.Goals as goal

pub put-requires : goal.put-requires
put-requires g c =
    (next_fits (g.F.Field.Fits c.args.two) c.args.values.now c.loop-value.value-index c.value-item.result
    c.loop-value-test.true c.value-item.is c.loop-value.invariant.fit).0

pub loop-value-preserved : goal.loop-value-preserved
loop-value-preserved g c = record {
  written = next_put (g.F.Field.spelled c.args.two) c.args.values.now c.loop-value.value-index c.value-item.result
      c.loop-value.out (c.args.out.now ++ flat_map (g.F.Field.spelled c.args.two) c.args.values.now) c.put.new.out
      c.loop-value-test.true c.value-item.is c.loop-value.invariant.written c.in_ok-put.ensures;
  fit = (next_fits (g.F.Field.Fits c.args.two) c.args.values.now c.loop-value.value-index c.value-item.result
      c.loop-value-test.true c.value-item.is c.loop-value.invariant.fit).1;
}

pub returns : goal.returns
returns g c =
    all_put (g.F.Field.spelled c.args.two) c.args.values.now c.loop-value.value-index c.loop-value.out
    (c.args.out.now ++ flat_map (g.F.Field.spelled c.args.two) c.args.values.now)
    c.loop-value-test.false c.loop-value.invariant.written
