use Rattle.mta_drill_laws.proofs.Relayed.{messages_relayed}
use Rattle.mta_drill_laws.proofs.laws.messages_are_relayed.Goals as goal

pub returns : goal.returns
returns c = messages_relayed
