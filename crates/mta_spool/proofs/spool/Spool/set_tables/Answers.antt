use Rattle.mta_spool.specs.Stands.{fault_of}
use Rattle.mta_spool.proofs.Refused.{no_lane}
use Rattle.mta_spool.proofs.spool.Spool.set_tables.Goals as goal

pub returns-clause-no_lane : goal.returns-clause-no_lane
returns-clause-no_lane g c =
    no_lane (fault_of c.record_tables.result) (λ f e of. c.record_tables.ensures.made.row f e of)
