use Rattle.mta_fields.proofs.Kept.{trace_kept, supplied_kept, extension_field_kept, expansion_kept}
use Rattle.mta_fields.proofs.laws.what_is_read_is_kept.Goals as goal

pub returns-clause-trace_elements : goal.returns-clause-trace_elements
returns-clause-trace_elements c = trace_kept

pub returns-clause-supplied : goal.returns-clause-supplied
returns-clause-supplied c = supplied_kept

pub returns-clause-extension_fields : goal.returns-clause-extension_fields
returns-clause-extension_fields c = extension_field_kept

pub returns-clause-expansions : goal.returns-clause-expansions
returns-clause-expansions c = expansion_kept
