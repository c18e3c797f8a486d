use Rattle.mta_worked_histories.proofs.Worked.{started_is_sent}
use Rattle.mta_worked_histories.proofs.law.started_is_sent.Goals as goal

pub returns : goal.returns
returns c = started_is_sent
