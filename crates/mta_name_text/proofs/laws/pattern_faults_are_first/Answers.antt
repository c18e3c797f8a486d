use Rattle.mta_name_text.proofs.MadeLaws.{pattern_fault, fault_of_pattern}
use Rattle.mta_name_text.proofs.laws.pattern_faults_are_first.Goals as goal

pub returns : goal.returns
returns c = λ text at. (pattern_fault text at, fault_of_pattern text at)
