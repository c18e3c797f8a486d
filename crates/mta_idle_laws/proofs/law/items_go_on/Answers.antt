use Rattle.mta_idle_laws.proofs.Kept.{items_go_on}
use Rattle.mta_idle_laws.proofs.law.items_go_on.Goals as goal

pub returns : goal.returns
returns c = items_go_on
