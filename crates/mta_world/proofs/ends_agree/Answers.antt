use Rattle.mta_world.proofs.Run.{ends-agree}
use Rattle.mta_world.proofs.ends_agree.Goals as goal

pub returns : goal.returns
returns c = ends-agree
