use Rattle.mta_transfer_laws.proofs.Intake.{keep-rules}
use Rattle.mta_transfer_laws.proofs.receivings_keep_rules.Goals as goal

pub returns : goal.returns
returns c = keep-rules
