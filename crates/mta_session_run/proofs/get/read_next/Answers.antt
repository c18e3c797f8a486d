use Rattle.mta_session_run.proofs.Talks.{carried_next}
use Rattle.mta_session_run.proofs.get.read_next.Goals as goal

pub returns-clause-carried : goal.returns-clause-carried
returns-clause-carried c =
    λ f g us octets k. carried_next us octets c.args.frames.now c.next.new.self f g c.next.result k
    (c.next.ensures.reading us k.stream k.read)
