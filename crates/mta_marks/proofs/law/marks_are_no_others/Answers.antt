use Rattle.mta_marks.proofs.Images.{no_marks}
use Rattle.mta_marks.proofs.law.marks_are_no_others.Goals as goal

pub returns : goal.returns
returns c = no_marks
