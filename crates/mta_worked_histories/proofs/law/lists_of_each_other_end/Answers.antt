use Rattle.mta_worked_histories.proofs.Worked.{lists_of_each_other_end}
use Rattle.mta_worked_histories.proofs.law.lists_of_each_other_end.Goals as goal

pub returns : goal.returns
returns c = lists_of_each_other_end
