use Rattle.mta_name_text.proofs.MadeLaws.{name_fault, fault_of_name}
use Rattle.mta_name_text.proofs.laws.name_faults_are_first.Goals as goal

pub returns : goal.returns
returns c = λ text at. (name_fault text at, fault_of_name text at)
