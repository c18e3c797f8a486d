use Rattle.mta_spool.proofs.Order.{first_cause_is_told}
use Rattle.mta_spool.proofs.law.first_cause_is_told.Goals as goal

pub returns : goal.returns
returns g c = first_cause_is_told g.D.Disk.model
