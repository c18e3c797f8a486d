use Rattle.mta_session_laws.proofs.Order.{answering_at_once}
use Rattle.mta_session_laws.proofs.order_laws.units_are_answered.Goals as goal

pub returns : goal.returns
returns c = answering_at_once
