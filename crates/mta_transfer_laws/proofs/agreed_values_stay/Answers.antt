use Rattle.mta_transfer_laws.proofs.Values.{stay}
use Rattle.mta_transfer_laws.proofs.agreed_values_stay.Goals as goal

pub returns : goal.returns
returns c = stay
