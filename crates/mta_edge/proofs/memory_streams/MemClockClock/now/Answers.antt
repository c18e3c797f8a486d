use Rattle.std.proofs.Common.{arith, ap, subst, length}
use Rattle.mta_edge.specs.Moments.{may_tell}
use Rattle.mta_edge.proofs.Told.{later_tells}
use Rattle.mta_edge.proofs.memory_streams.MemClockClock.now.Goals as goal

pub returns-then-self-len-clause-fewer : goal.returns-then-self-len-clause-fewer
returns-then-self-len-clause-fewer c m tells =
    subst (λ left. may_tell left m) c.self.view_is
    (later_tells c.self.inside.moments.items c.self.inside.at m (omega arith) tells)
