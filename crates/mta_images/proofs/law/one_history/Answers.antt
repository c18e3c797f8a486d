use Rattle.mta_images.proofs.Unique.{one_history}
use Rattle.mta_images.proofs.law.one_history.Goals as goal

pub returns : goal.returns
returns c = one_history
