use Rattle.mta_procedures.proofs.EndLaws.{reports_go}
use Rattle.mta_procedures.proofs.ends.reports_go_where_the_walk_ends.Goals as goal

pub returns : goal.returns
returns c = reports_go
