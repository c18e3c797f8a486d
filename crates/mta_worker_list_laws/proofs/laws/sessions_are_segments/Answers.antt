use Rattle.mta_worker_list_laws.proofs.Sessions.{sessions_are_segments}
use Rattle.mta_worker_list_laws.proofs.laws.sessions_are_segments.Goals as goal

pub returns : goal.returns
returns c = sessions_are_segments
