use Rattle.mta_rehearse_run.proofs.OneWalk.{has_one_walk}
use Rattle.mta_rehearse_run.proofs.laws.walks_are_one.Goals as goal

pub returns : goal.returns
returns c = has_one_walk
