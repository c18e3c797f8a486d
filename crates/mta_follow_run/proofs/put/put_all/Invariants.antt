use Rattle.std.proofs.Common.{length}
use Rattle.mta_follow_run.proofs.Carrying.{PutsPart}
use Rattle.mta_follow_run.proofs.put.put_all.Given as goal

abbrev pub invariant-loop-rest : goal.invariant-loop-rest
invariant-loop-rest g l = PutsPart g.L.Link.model l.bytes l.rest l.fn.link l.link

abbrev pub decreases-loop-rest : goal.decreases-loop-rest
decreases-loop-rest g l = length l.rest
