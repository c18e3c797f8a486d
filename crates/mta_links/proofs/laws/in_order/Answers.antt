use Rattle.mta_links.proofs.Inputs.{in_order}
use Rattle.mta_links.proofs.laws.in_order.Goals as goal

pub returns : goal.returns
returns c = in_order
