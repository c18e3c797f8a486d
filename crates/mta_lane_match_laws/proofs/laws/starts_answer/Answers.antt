use Rattle.mta_lane_match_laws.proofs.Answering.{starts_answer, looks_still}
use Rattle.mta_lane_match_laws.proofs.laws.starts_answer.Goals as goal

pub returns-clause-answers : goal.returns-clause-answers
returns-clause-answers c = starts_answer c.steps_keep.ensures

pub returns-clause-looks : goal.returns-clause-looks
returns-clause-looks c = looks_still
