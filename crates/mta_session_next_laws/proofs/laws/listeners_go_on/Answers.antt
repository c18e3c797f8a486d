use Rattle.mta_session_next_laws.proofs.Listening.{listeners_go_on}
use Rattle.mta_session_next_laws.proofs.laws.listeners_go_on.Goals as goal

pub returns : goal.returns
returns c = listeners_go_on
