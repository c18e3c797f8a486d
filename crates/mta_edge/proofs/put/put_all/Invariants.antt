use Rattle.std.proofs.Common.{◌≤◌, length}
use Rattle.mta_edge.specs.Outside.{Goes}
use Rattle.mta_edge.specs.Streams.{TakesBut}
use Rattle.mta_edge.proofs.put.put_all.Given as goal

abbrev pub invariant-loop-rest : goal.invariant-loop-rest
invariant-loop-rest g l = record {
  taken : Goes (TakesBut l.bytes l.rest) (g.O.Sink.model.taken l.fn.out) (g.O.Sink.model.taken l.out);
  later : g.O.Sink.model.faults l.fn.out ≤ g.O.Sink.model.faults l.out;
}

abbrev pub decreases-loop-rest : goal.decreases-loop-rest
decreases-loop-rest g l = length l.rest
