use Rattle.mta_transfer_laws.proofs.Agreeing.{agree}
use Rattle.mta_transfer_laws.proofs.sessions_agree.Goals as goal

pub returns : goal.returns
returns c = agree c.ends_agree.ensures
