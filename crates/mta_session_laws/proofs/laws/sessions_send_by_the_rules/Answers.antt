use Rattle.mta_session_laws.proofs.Runs.{sending_runs}
use Rattle.mta_session_laws.proofs.laws.sessions_send_by_the_rules.Goals as goal

pub returns : goal.returns
returns c = sending_runs c.calls_lead_on.ensures
