use Rattle.mta_fields.proofs.FieldAgain.{traces_again, supplied_again}
use Rattle.mta_fields.proofs.laws.trace_elements_are_read_again.Goals as goal

pub returns-clause-elements : goal.returns-clause-elements
returns-clause-elements c = traces_again

pub returns-clause-supplied : goal.returns-clause-supplied
returns-clause-supplied c = supplied_again
