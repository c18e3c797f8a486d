use Rattle.mta_session_next_laws.proofs.Holding.{holders_go_on}
use Rattle.mta_session_next_laws.proofs.laws.holders_go_on.Goals as goal

pub returns : goal.returns
returns c = holders_go_on
