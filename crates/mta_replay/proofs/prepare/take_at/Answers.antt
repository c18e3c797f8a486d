use Rattle.std.proofs.Common.{sym}
use Rattle.mta_replay.proofs.Hands.{no_item, read_all}
use Rattle.mta_replay.proofs.prepare.take_at.Goals as goal

pub returns-in-None-clause-reading : goal.returns-in-None-clause-reading
returns-in-None-clause-reading c =
    no_item c.args.kept.now.parts.items.items c.args.number c.nothing.result c.in-None.ensures

pub take-requires : goal.take-requires
take-requires c = c.requires c.in-Some.item.now (sym c.in-Some.ensures)

pub returns-in-Some-clause-reading : goal.returns-in-Some-clause-reading
returns-in-Some-clause-reading c =
    read_all c.args.kept.now.parts.items.items c.args.number c.in-Some.item.now c.take.result c.in-Some.ensures
    c.take.ensures.reading
