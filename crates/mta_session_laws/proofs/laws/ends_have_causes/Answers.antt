use Rattle.mta_session_laws.proofs.CausesOfUnits.{causes}
use Rattle.mta_session_laws.proofs.laws.ends_have_causes.Goals as goal

pub returns : goal.returns
returns c = causes
