use Rattle.mta_images.proofs.NoSpool.{one_stop}
use Rattle.mta_images.proofs.law.no_spool_at_one_place.Goals as goal

pub returns : goal.returns
returns c = one_stop
