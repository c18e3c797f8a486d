use Rattle.mta_fields.proofs.Definite.{fitting_traces_again, fitting_supplied_again, fitting_extension_fields_again}
use Rattle.mta_fields.proofs.Definite.{fitting_expansions_again}
use Rattle.mta_fields.proofs.laws.fields_that_fit_are_read_again.Goals as goal

pub returns-clause-trace_elements : goal.returns-clause-trace_elements
returns-clause-trace_elements c = fitting_traces_again

pub returns-clause-supplied : goal.returns-clause-supplied
returns-clause-supplied c = fitting_supplied_again

pub returns-clause-extension_fields : goal.returns-clause-extension_fields
returns-clause-extension_fields c = fitting_extension_fields_again

pub returns-clause-expansions : goal.returns-clause-expansions
returns-clause-expansions c = fitting_expansions_again
