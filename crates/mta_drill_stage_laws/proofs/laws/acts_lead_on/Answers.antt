use Rattle.mta_drill_stage_laws.proofs.Ended.{caller_stays, listener_goes, listener_stays, rounds_stay}
use Rattle.mta_drill_stage_laws.proofs.laws.acts_lead_on.Goals as goal

pub returns : goal.returns
returns c = record { listens = listener_stays; all = listener_goes; calls = caller_stays; rounds = rounds_stay }
