use Rattle.mta_session_laws.proofs.Turning.{step_goes, start_goes}
use Rattle.mta_session_laws.proofs.laws.steps_lead_on.Goals as goal

pub returns : goal.returns
returns c = record { steps = step_goes; starts = start_goes }
