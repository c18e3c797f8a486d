use Rattle.mta_drill_stage_laws.proofs.Recovering.{recoveries_call, recoveries_listen}
use Rattle.mta_drill_stage_laws.proofs.laws.recoveries_lead_on.Goals as goal

pub returns : goal.returns
returns c = record { listens = recoveries_listen; calls = recoveries_call }
