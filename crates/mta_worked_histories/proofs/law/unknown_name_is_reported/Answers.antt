use Rattle.mta_worked_histories.proofs.Worked.{unknown_name_is_reported}
use Rattle.mta_worked_histories.proofs.law.unknown_name_is_reported.Goals as goal

pub returns : goal.returns
returns c = unknown_name_is_reported
