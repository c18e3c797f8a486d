use Rattle.mta_transfer_laws.proofs.Sample.{two}
use Rattle.mta_transfer_laws.proofs.two_sessions_send.Goals as goal

pub returns : goal.returns
returns c = two
