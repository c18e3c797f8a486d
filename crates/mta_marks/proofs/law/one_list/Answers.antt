use Rattle.mta_marks.proofs.Images.{one_list}
use Rattle.mta_marks.proofs.law.one_list.Goals as goal

pub returns : goal.returns
returns c = one_list
