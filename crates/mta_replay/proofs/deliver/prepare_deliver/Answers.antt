use Rattle.std.proofs.Common.{sym}
use Rattle.mta_replay.proofs.deliver.prepare_deliver.Goals as goal

pub delivery-requires-clause-reading : goal.delivery-requires-clause-reading
delivery-requires-clause-reading g c = c.requires.reading c.in-Some.found.now (sym c.in-Some.ensures)
