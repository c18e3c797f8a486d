use Rattle.mta_transfer_laws.proofs.Cover.{keeps-order}
use Rattle.mta_transfer_laws.proofs.covering_keeps_order.Goals as goal

pub returns : goal.returns
returns c = keeps-order
