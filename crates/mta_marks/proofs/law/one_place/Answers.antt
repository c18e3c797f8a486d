use Rattle.mta_marks.proofs.Images.{one_stop}
use Rattle.mta_marks.proofs.law.one_place.Goals as goal

pub returns : goal.returns
returns c = one_stop
