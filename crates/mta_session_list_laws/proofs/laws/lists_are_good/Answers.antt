use Rattle.mta_session_list_laws.proofs.OverLaw.{lists_good}
use Rattle.mta_session_list_laws.proofs.laws.lists_are_good.Goals as goal

pub returns : goal.returns
returns c = lists_good c.events_lead_on.ensures
