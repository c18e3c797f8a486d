use Rattle.std.proofs.Common.{sym}
use Rattle.mta_replay.proofs.deliver.prepare_affirm.Goals as goal

pub ready_verdict-requires-clause-reading : goal.ready_verdict-requires-clause-reading
ready_verdict-requires-clause-reading g c = c.requires.reading c.in-Some.found.now (sym c.in-Some.ensures)

pub affirmation-requires-clause-reading : goal.affirmation-requires-clause-reading
affirmation-requires-clause-reading g c = c.requires.reading c.in-Some.found.now (sym c.in-Some.ensures)
