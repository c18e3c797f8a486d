use Rattle.mta_lane_match_laws.proofs.Replies.{replies_match}
use Rattle.mta_lane_match_laws.proofs.laws.replies_match.Goals as goal

pub returns : goal.returns
returns c = replies_match c.own_steps_match.ensures
