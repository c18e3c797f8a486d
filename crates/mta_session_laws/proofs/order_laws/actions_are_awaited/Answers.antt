use Rattle.mta_session_laws.proofs.Order.{being_awaited}
use Rattle.mta_session_laws.proofs.order_laws.actions_are_awaited.Goals as goal

pub returns : goal.returns
returns c = being_awaited
