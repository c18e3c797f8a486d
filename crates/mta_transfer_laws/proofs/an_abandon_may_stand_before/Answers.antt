use Rattle.mta_transfer_laws.proofs.Unseen.{before-settling}
use Rattle.mta_transfer_laws.proofs.an_abandon_may_stand_before.Goals as goal

pub returns : goal.returns
returns c = before-settling
