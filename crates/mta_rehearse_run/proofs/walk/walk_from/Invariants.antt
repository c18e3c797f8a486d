use Rattle.std.proofs.Common.{◌≡◌, ◌-◌, length, get_or}
use Rattle.mta_rehearse_run.specs.Turns.{turn_of}
use Rattle.mta_rehearse_run.specs.Walks.{IsPath}
use Rattle.mta_rehearse_run.proofs.walk.walk_from.Given as goal

abbrev pub invariant-walking : goal.invariant-walking
invariant-walking l =
    IsPath (turn_of l.agents l.name) l.start l.walked × (l.last ≡ get_or l.walked (length l.walked - 1) 0)

abbrev pub decreases-walking : goal.decreases-walking
decreases-walking l = length l.agents - length l.walked
