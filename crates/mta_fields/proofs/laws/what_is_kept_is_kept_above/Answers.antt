use Rattle.mta_fields.proofs.Kept.{trace_above, supplied_above, extension_field_above, expansion_above}
use Rattle.mta_fields.proofs.laws.what_is_kept_is_kept_above.Goals as goal

pub returns-clause-trace_elements : goal.returns-clause-trace_elements
returns-clause-trace_elements c = trace_above

pub returns-clause-supplied : goal.returns-clause-supplied
returns-clause-supplied c = supplied_above

pub returns-clause-extension_fields : goal.returns-clause-extension_fields
returns-clause-extension_fields c = extension_field_above

pub returns-clause-expansions : goal.returns-clause-expansions
returns-clause-expansions c = expansion_above
