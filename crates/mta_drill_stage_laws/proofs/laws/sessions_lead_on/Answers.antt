use Rattle.mta_drill_stage_laws.proofs.Between.{sessions_are_few, sessions_lead_on, sessions_start}
use Rattle.mta_drill_stage_laws.proofs.laws.sessions_lead_on.Goals as goal

pub returns : goal.returns
returns c = record { starts = sessions_start; leads = sessions_lead_on; few = sessions_are_few }
