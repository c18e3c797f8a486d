use Rattle.mta_transfer_laws.proofs.Kept.{end_acks-kept}
use Rattle.mta_transfer_laws.proofs.end_acks_are_kept.Goals as goal

pub returns : goal.returns
returns c = end_acks-kept
