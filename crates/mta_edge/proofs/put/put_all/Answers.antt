use Rattle.std.proofs.Common.{arith, rules}
use Rattle.mta_edge.specs.Outside.{Goes-then}
use Rattle.mta_edge.proofs.Pieces.{takes_more}
use Rattle.mta_edge.proofs.put.put_all.Goals as goal

pub loop-rest-preserved : goal.loop-rest-preserved
loop-rest-preserved g c = record {
  taken = Goes-then (λ f h k told one two. takes_more c.args.bytes.now c.loop-rest.rest.now c.split_at.result.1.now
      c.in_ok-count.count f h k (search rules) one two) c.loop-rest.invariant.taken c.in_ok-count.ensures.put;
  later = omega (arith, c.loop-rest.invariant.later, c.put.ensures.cause.later);
}
