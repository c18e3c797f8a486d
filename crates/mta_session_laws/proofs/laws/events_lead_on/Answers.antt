use Rattle.mta_session_laws.proofs.Events.{events_go}
use Rattle.mta_session_laws.proofs.laws.events_lead_on.Goals as goal

pub returns : goal.returns
returns c = events_go c.steps_are_called.ensures.steps c.steps_are_called.ensures.live
    c.steps_are_called.ensures.passing
