use Rattle.mta_drill_answer_laws.proofs.Asking.{questions_are_asked}
use Rattle.mta_drill_answer_laws.proofs.laws.questions_are_asked.Goals as goal

pub returns : goal.returns
returns c = questions_are_asked
