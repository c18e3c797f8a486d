use Rattle.mta_world.proofs.Arrives.{arrives}
use Rattle.mta_world.proofs.a_message_arrives.Goals as goal

pub returns : goal.returns
returns c = arrives
