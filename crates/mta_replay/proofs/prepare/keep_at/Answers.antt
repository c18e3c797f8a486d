use Rattle.std.proofs.Common.{sym}
use Rattle.mta_replay.proofs.prepare.keep_at.Goals as goal

pub keep_of-requires : goal.keep_of-requires
keep_of-requires c = c.requires c.in-Some.item.now (sym c.in-Some.ensures)

pub returns-in-Some : goal.returns-in-Some
returns-in-Some c = λ format text indexed.
    c.keep_of.ensures format text c.args.kept.now.parts.items.items (sym c.in-Some.ensures) indexed
