use Rattle.std.proofs.Common.{sym}
use Rattle.mta_replay.proofs.deliver.prepare_expand.Goals as goal

pub ready_verdict-requires-clause-reading : goal.ready_verdict-requires-clause-reading
ready_verdict-requires-clause-reading g c = c.requires.reading c.in-Some.found.now (sym c.in-Some.ensures)

pub list_expansion-requires-clause-reading : goal.list_expansion-requires-clause-reading
list_expansion-requires-clause-reading g c = c.requires.reading c.in-Some.found.now (sym c.in-Some.ensures)
