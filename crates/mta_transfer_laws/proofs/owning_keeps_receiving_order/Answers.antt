use Rattle.mta_transfer_laws.proofs.Received.{keeps-order}
use Rattle.mta_transfer_laws.proofs.owning_keeps_receiving_order.Goals as goal

pub returns : goal.returns
returns c = keeps-order
