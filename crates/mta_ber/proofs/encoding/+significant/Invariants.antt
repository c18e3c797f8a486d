use Rattle.std.proofs.Common.{length}
use Rattle.mta_ber.proofs.encoding.+significant.Given as goal

abbrev pub decreases-significant : goal.decreases-significant
decreases-significant l = length l.octets.now
