use Rattle.std.proofs.Common.{length}
use Rattle.mta_ber.proofs.put.+shortest_of.Given as goal

abbrev pub decreases-shortest_of : goal.decreases-shortest_of
decreases-shortest_of l = length l.octets.now
