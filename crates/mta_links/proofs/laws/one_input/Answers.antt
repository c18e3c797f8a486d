use Rattle.mta_links.proofs.Inputs.{one_input}
use Rattle.mta_links.proofs.laws.one_input.Goals as goal

pub returns : goal.returns
returns c = one_input
