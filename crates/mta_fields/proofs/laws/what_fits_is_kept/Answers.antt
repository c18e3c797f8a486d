use Rattle.mta_fields.proofs.Definite.{definite_everywhere, trace_fits, supplied_fits, extension_field_fits}
use Rattle.mta_fields.proofs.Definite.{expansion_fits}
use Rattle.mta_fields.proofs.laws.what_fits_is_kept.Goals as goal

pub returns-clause-definite : goal.returns-clause-definite
returns-clause-definite c = definite_everywhere

pub returns-clause-trace_elements : goal.returns-clause-trace_elements
returns-clause-trace_elements c = trace_fits

pub returns-clause-supplied : goal.returns-clause-supplied
returns-clause-supplied c = supplied_fits

pub returns-clause-extension_fields : goal.returns-clause-extension_fields
returns-clause-extension_fields c = extension_field_fits

pub returns-clause-expansions : goal.returns-clause-expansions
returns-clause-expansions c = expansion_fits
