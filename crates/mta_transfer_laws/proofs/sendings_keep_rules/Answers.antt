use Rattle.mta_transfer_laws.proofs.Schedule.{keep-rules}
use Rattle.mta_transfer_laws.proofs.sendings_keep_rules.Goals as goal

pub returns : goal.returns
returns c = keep-rules
