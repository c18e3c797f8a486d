use Rattle.std.proofs.Common.{arith, rules}
use Rattle.mta_session_run.proofs.Talks.{part_none, part_more}
use Rattle.mta_session_run.proofs.put.put_all.Goals as goal

pub loop-rest-init : goal.loop-rest-init
loop-rest-init g c = record {
  part = part_none c.args.bytes.now (g.L.Link.model.talk c.args.link.now);
  later =
      omega arith;
}

pub loop-rest-preserved : goal.loop-rest-preserved
loop-rest-preserved g c = record {
  part = part_more c.args.bytes.now c.loop-rest.rest.now c.split_at.result.1.now c.in_ok-count.count _ _ _
      (search rules) (search rules) c.loop-rest.invariant.part c.in_ok-count.ensures.put;
  later = omega (arith, c.loop-rest.invariant.later, c.put.ensures.cause.later);
}
