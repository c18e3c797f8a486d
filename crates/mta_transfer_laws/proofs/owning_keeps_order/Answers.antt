use Rattle.mta_transfer_laws.proofs.Owning.{keeps-order}
use Rattle.mta_transfer_laws.proofs.owning_keeps_order.Goals as goal

pub returns : goal.returns
returns c = keeps-order
