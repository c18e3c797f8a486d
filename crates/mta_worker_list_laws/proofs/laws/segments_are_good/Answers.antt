use Rattle.mta_worker_list_laws.proofs.Whole.{segments_are_good}
use Rattle.mta_worker_list_laws.proofs.laws.segments_are_good.Goals as goal

pub returns : goal.returns
returns c = segments_are_good c.lists_are_good.ensures
