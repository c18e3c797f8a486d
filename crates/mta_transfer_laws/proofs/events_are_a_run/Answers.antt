use Rattle.mta_transfer_laws.proofs.Running.{runs}
use Rattle.mta_transfer_laws.proofs.events_are_a_run.Goals as goal

pub returns : goal.returns
returns c = runs
