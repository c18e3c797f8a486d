use Rattle.mta_worker_step_laws.proofs.Workers.{steps_are_timed}
use Rattle.mta_worker_step_laws.proofs.laws.steps_are_timed.Goals as goal

pub returns : goal.returns
returns g c = steps_are_timed g.D.Disk.model g.C.Clock.model g.L.Link.model g.S.Station.model
