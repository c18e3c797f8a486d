use Rattle.mta_session_laws.proofs.Runs.{receiving_runs}
use Rattle.mta_session_laws.proofs.laws.sessions_receive_by_the_rules.Goals as goal

pub returns : goal.returns
returns c = receiving_runs c.calls_lead_the_receiver_on.ensures
