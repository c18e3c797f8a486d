use Rattle.mta_images.proofs.NoSpool.{no_history}
use Rattle.mta_images.proofs.law.no_spool_has_no_history.Goals as goal

pub returns : goal.returns
returns c = no_history
