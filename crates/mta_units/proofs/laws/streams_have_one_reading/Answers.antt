use Rattle.mta_units.proofs.ReadingLaws.{one_reading}
use Rattle.mta_units.proofs.laws.streams_have_one_reading.Goals as goal

pub returns : goal.returns
returns c = one_reading
