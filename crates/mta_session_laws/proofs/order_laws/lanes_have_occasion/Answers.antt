use Rattle.mta_session_laws.proofs.Order.{having_occasion}
use Rattle.mta_session_laws.proofs.order_laws.lanes_have_occasion.Goals as goal

pub returns : goal.returns
returns c = having_occasion
