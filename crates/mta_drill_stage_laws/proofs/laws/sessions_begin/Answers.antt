use Rattle.mta_drill_stage_laws.proofs.Starting.{first_sessions_begin, later_sessions_begin}
use Rattle.mta_drill_stage_laws.proofs.laws.sessions_begin.Goals as goal

pub returns : goal.returns
returns c = record { first = first_sessions_begin; later = later_sessions_begin }
