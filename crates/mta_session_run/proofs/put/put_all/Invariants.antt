use Rattle.std.proofs.Common.{◌≤◌, length}
use Rattle.mta_session_run.proofs.Talks.{PutsPart}
use Rattle.mta_session_run.proofs.put.put_all.Given as goal

abbrev pub invariant-loop-rest : goal.invariant-loop-rest
invariant-loop-rest g l = record {
  part : PutsPart l.bytes l.rest (g.L.Link.model.talk l.fn.link) (g.L.Link.model.talk l.link);
  later : g.L.Link.model.faults l.fn.link ≤ g.L.Link.model.faults l.link;
}

abbrev pub decreases-loop-rest : goal.decreases-loop-rest
decreases-loop-rest g l = length l.rest
