use Rattle.mta_drill_stage_laws.proofs.Knowing.{looks_heard, none_is_refused, sessions_known}
use Rattle.mta_drill_stage_laws.proofs.laws.sessions_are_known.Goals as goal

pub returns : goal.returns
returns c = record { known = sessions_known; made = none_is_refused; heard = looks_heard }
