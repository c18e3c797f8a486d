use Rattle.mta_lane_match_laws.proofs.Answering.{replies_answer}
use Rattle.mta_lane_match_laws.proofs.laws.replies_answer.Goals as goal

pub returns : goal.returns
returns c = replies_answer
