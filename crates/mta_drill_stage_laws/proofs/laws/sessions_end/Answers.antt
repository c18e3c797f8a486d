use Rattle.mta_drill_stage_laws.proofs.Ended.{sessions_end}
use Rattle.mta_drill_stage_laws.proofs.laws.sessions_end.Goals as goal

pub returns : goal.returns
returns c = sessions_end
