use Rattle.mta_worker.proofs.TellingLines.{lines_may_be_accepted, lines_may_be_told}
use Rattle.mta_worker.proofs.plan_laws.lines_may_be_told.Goals as goal

pub returns : goal.returns
returns c = record { accepted = lines_may_be_accepted; told = lines_may_be_told }
