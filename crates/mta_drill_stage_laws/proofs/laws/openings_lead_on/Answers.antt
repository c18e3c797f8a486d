use Rattle.mta_drill_stage_laws.proofs.Opening.{openings_call, openings_listen}
use Rattle.mta_drill_stage_laws.proofs.laws.openings_lead_on.Goals as goal

pub returns : goal.returns
returns c = record { listens = openings_listen; calls = openings_call }
