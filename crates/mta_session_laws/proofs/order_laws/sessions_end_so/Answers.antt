use Rattle.mta_session_laws.proofs.Ends.{ending_so}
use Rattle.mta_session_laws.proofs.order_laws.sessions_end_so.Goals as goal

pub returns : goal.returns
returns c = ending_so
