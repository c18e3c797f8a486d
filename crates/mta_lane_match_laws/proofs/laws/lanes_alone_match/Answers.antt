use Rattle.mta_lane_match_laws.proofs.Alone.{alone_before, alone_keeps}
use Rattle.mta_lane_match_laws.proofs.laws.lanes_alone_match.Goals as goal

pub returns-clause-before : goal.returns-clause-before
returns-clause-before c = alone_before

pub returns-clause-keeps : goal.returns-clause-keeps
returns-clause-keeps c = alone_keeps c.others_keep_all.ensures c.histories_keep.ensures
