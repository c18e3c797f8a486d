use Rattle.mta_fields.proofs.Kept.{read_identifiers_again, read_traces_again, read_extension_fields_again}
use Rattle.mta_fields.proofs.Kept.{read_expansions_again}
use Rattle.mta_fields.proofs.laws.fields_that_were_read_are_read_again.Goals as goal

pub returns-clause-identifiers : goal.returns-clause-identifiers
returns-clause-identifiers c = read_identifiers_again

pub returns-clause-trace_elements : goal.returns-clause-trace_elements
returns-clause-trace_elements c = read_traces_again

pub returns-clause-extension_fields : goal.returns-clause-extension_fields
returns-clause-extension_fields c = read_extension_fields_again

pub returns-clause-expansions : goal.returns-clause-expansions
returns-clause-expansions c = read_expansions_again
