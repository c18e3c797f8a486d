use Rattle.mta_session_laws.proofs.WritingUnits.{puts_may_be_written}
use Rattle.mta_session_laws.proofs.laws.units_put_may_be_written.Goals as goal

pub returns : goal.returns
returns c = puts_may_be_written
