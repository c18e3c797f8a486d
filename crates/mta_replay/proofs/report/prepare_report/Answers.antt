use Rattle.std.proofs.Common.{sym}
use Rattle.mta_replay.proofs.report.prepare_report.Goals as goal

pub ready_verdict-requires-clause-reading : goal.ready_verdict-requires-clause-reading
ready_verdict-requires-clause-reading g c = c.requires.reading c.in-Some.found.now (sym c.in-Some.ensures)

pub failure-requires-clause-reading : goal.failure-requires-clause-reading
failure-requires-clause-reading g c = c.requires.reading c.in-Some.found.now (sym c.in-Some.ensures)
