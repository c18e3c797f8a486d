use Rattle.mta_worker.proofs.Looking.{lost_at}
use Rattle.mta_worker.proofs.Turned.{answered, lost_behind, lost_there}
use Rattle.mta_worker.proofs.turn.answer_all.Goals as goal

pub returns-in-Err-clause-lost : goal.returns-in-Err-clause-lost
returns-in-Err-clause-lost g c =
    lost_there g.D.Disk.model g.C.Clock.model c.args.ask c.args.spool.now c.args.session.now c.args.halt.now
    c.reply_to-reply.new.spool c.reply_to-reply.result c.told.new.session c.noted.result c.in-Err.lost
    c.reply_to-reply.ensures.replied
    (lost_at c.args.session.now c.reply_to-reply.result c.in-Err.lost c.in-Err.ensures.lane c.in-Err.ensures.memory)
    c.in-Err.ensures.kept c.noted.ensures

pub returns-in-Ok-clause-answered : goal.returns-in-Ok-clause-answered
returns-in-Ok-clause-answered g c =
    answered g.D.Disk.model g.C.Clock.model c.args.ask c.args.spool.now c.args.session.now c.args.halt.now
    c.reply_to-reply.new.spool c.reply_to-reply.result c.in-Ok.action c.told.new.session
    c.answer_looks.new.session c.noted.result c.answer_looks.new.halt c.answer_looks.result
    c.reply_to-reply.ensures.replied c.in-Ok.ensures.told.turn c.noted.ensures c.answer_looks.ensures.looked
    c.answer_looks.ensures.all

pub returns-in-Ok-clause-lost : goal.returns-in-Ok-clause-lost
returns-in-Ok-clause-lost g c =
    lost_behind g.D.Disk.model g.C.Clock.model c.args.ask c.args.spool.now c.args.session.now c.args.halt.now
    c.reply_to-reply.new.spool c.reply_to-reply.result c.in-Ok.action c.told.new.session
    c.answer_looks.new.session c.noted.result c.answer_looks.new.halt c.answer_looks.result
    c.reply_to-reply.ensures.replied c.in-Ok.ensures.told.turn c.noted.ensures c.answer_looks.ensures.lost
