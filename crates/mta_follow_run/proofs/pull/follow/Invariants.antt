use Rattle.std.proofs.Common.{◌-◌, ◌^◌}
use Rattle.mta_follow_run.proofs.Pulling.{IsPulling}
use Rattle.mta_follow_run.proofs.pull.follow.Given as goal

abbrev pub invariant-loop-got : goal.invariant-loop-got
invariant-loop-got g l = IsPulling g.D.Disk.model g.L.Link.model l.bodies l.fn.journal l.fn.link l.journal l.link
    l.reader
    l.got

abbrev pub decreases-loop-got : goal.decreases-loop-got
decreases-loop-got g l = 2 ^ 64 - l.got
