use Rattle.mta_worker_list_laws.proofs.Truth.{reading_tells}
use Rattle.mta_worker_list_laws.proofs.laws.reading_tells.Goals as goal

pub returns : goal.returns
returns c = reading_tells
