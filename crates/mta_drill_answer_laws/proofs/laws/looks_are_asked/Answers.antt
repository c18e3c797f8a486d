use Rattle.mta_drill_answer_laws.proofs.Looks.{looks_so}
use Rattle.mta_drill_answer_laws.proofs.laws.looks_are_asked.Goals as goal

pub returns : goal.returns
returns c = looks_so
