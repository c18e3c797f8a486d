use Rattle.mta_worker_list_laws.proofs.Made.{steps_have_sessions}
use Rattle.mta_worker_list_laws.proofs.laws.steps_have_sessions.Goals as goal

pub returns : goal.returns
returns g c = steps_have_sessions g.L.Link.model
