use Rattle.mta_session_laws.proofs.Calls.{calls_go}
use Rattle.mta_session_laws.proofs.laws.calls_lead_on.Goals as goal

pub returns : goal.returns
returns c = calls_go c.events_lead_on.ensures
