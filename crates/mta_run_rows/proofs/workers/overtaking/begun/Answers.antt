use Rattle.mta_worker.proofs.Readied.{responder_begun}
use Rattle.mta_run_rows.proofs.workers.overtaking.begun.Goals as goal

pub returns-in-Ok-tell : goal.returns-in-Ok-tell
returns-in-Ok-tell g c =
    responder_begun c.in-Ok.own c.limits.result.units c.responder-session.result c.in-Ok-tell.action c.tell.new.session
    c.in-Ok.ensures.shown c.responder-session.ensures c.in-Ok-tell.ensures.told
