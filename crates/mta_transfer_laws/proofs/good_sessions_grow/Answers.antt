use Rattle.mta_transfer_laws.proofs.Growing.{grow}
use Rattle.mta_transfer_laws.proofs.good_sessions_grow.Goals as goal

pub returns : goal.returns
returns c = grow
