use Rattle.mta_session_laws.proofs.Order.{looking_first}
use Rattle.mta_session_laws.proofs.order_laws.looks_come_first.Goals as goal

pub returns : goal.returns
returns c = looking_first
