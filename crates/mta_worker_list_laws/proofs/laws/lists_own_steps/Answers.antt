use Rattle.mta_worker_list_laws.proofs.Segments.{lists_own_steps}
use Rattle.mta_worker_list_laws.proofs.laws.lists_own_steps.Goals as goal

pub returns : goal.returns
returns c = lists_own_steps
