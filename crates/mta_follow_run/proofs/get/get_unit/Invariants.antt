use Rattle.std.proofs.Common.{◌-◌, ◌^◌, length}
use Rattle.mta_follow_run.specs.Getting.{HasFed}
use Rattle.mta_follow_run.proofs.get.get_unit.Given as goal

abbrev pub invariant-loop-due : goal.invariant-loop-due
invariant-loop-due g l = HasFed g.L.Link.model l.fn.link l.fn.reader l.link l.reader

abbrev pub decreases-loop-due : goal.decreases-loop-due
decreases-loop-due g l = 2 ^ 32 - length l.reader.left
