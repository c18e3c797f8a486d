use Rattle.std.proofs.Common.{length}
use Rattle.mta_words.proofs.stations.+stations_from.Given as goal

abbrev pub decreases-stations_from : goal.decreases-stations_from
decreases-stations_from l = length l.words.now
