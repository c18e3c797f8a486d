use Rattle.mta_session_laws.proofs.EventsRecv.{events_go}
use Rattle.mta_session_laws.proofs.laws.events_lead_the_receiver_on.Goals as goal

pub returns : goal.returns
returns c = events_go
