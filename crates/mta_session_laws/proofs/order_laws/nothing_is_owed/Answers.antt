use Rattle.mta_session_laws.proofs.Order.{owing_nothing}
use Rattle.mta_session_laws.proofs.order_laws.nothing_is_owed.Goals as goal

pub returns : goal.returns
returns c = owing_nothing
