use Rattle.mta_replay.proofs.Hands.{no_item, read_all}
use Rattle.mta_replay.proofs.prepare.read_at.Goals as goal

pub returns-in-None : goal.returns-in-None
returns-in-None c = no_item c.args.kept.now.parts.items.items c.args.number c.nothing.result c.in-None.ensures

pub returns-in-Some : goal.returns-in-Some
returns-in-Some c =
    read_all c.args.kept.now.parts.items.items c.args.number c.in-Some.item.now c.read.result c.in-Some.ensures
    c.read.ensures
