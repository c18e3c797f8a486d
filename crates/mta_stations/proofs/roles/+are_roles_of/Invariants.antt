use Rattle.std.proofs.Common.{length}
use Rattle.mta_stations.proofs.roles.+are_roles_of.Given as goal

abbrev pub decreases-are_roles_of : goal.decreases-are_roles_of
decreases-are_roles_of g l = length l.words.now
