use Rattle.std.proofs.Common.{length}
use Rattle.mta_host.proofs.unit.Pace.pass.Given as goal

abbrev pub decreases-units : goal.decreases-units
decreases-units l = length l.rest
