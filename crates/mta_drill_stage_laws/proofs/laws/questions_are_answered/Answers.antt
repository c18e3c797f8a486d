use Rattle.mta_drill_stage_laws.proofs.Told.{questions_are_answered}
use Rattle.mta_drill_stage_laws.proofs.laws.questions_are_answered.Goals as goal

pub returns : goal.returns
returns c = questions_are_answered
