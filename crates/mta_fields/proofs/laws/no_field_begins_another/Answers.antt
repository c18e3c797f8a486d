use Rattle.mta_names.proofs.Rows.{none_begins}
use Rattle.mta_fields.proofs.Tagged.{none_tagged_begins}
use Rattle.mta_fields.specs.Domains.{domain_in, SpellsDomain}
use Rattle.mta_fields.specs.Identifiers.{id_in, SpellsMtsId}
use Rattle.mta_fields.specs.Traces.{supplied_in, SpellsSupplied}
use Rattle.mta_fields.specs.TraceElements.{trace_in, SpellsTrace}
use Rattle.mta_fields.specs.ExtensionFields.{ext_in, SpellsExtField}
use Rattle.mta_fields.specs.Expansions.{expansion_in, SpellsExpansion}
use Rattle.mta_fields.proofs.DomainLaws.{domain_full}
use Rattle.mta_fields.proofs.ExpansionLaws.{expansion_full}
use Rattle.mta_fields.proofs.ExtLaws.{ext_full}
use Rattle.mta_fields.proofs.IdentifierLaws.{id_full}
use Rattle.mta_fields.proofs.SuppliedLaws.{supplied_full}
use Rattle.mta_fields.proofs.TraceLaws.{trace_full}
use Rattle.mta_fields.proofs.laws.no_field_begins_another.Goals as goal

pub returns-clause-domains : goal.returns-clause-domains
returns-clause-domains c = none_tagged_begins domain_in SpellsDomain (λ v p d h. domain_full v p h)

pub returns-clause-identifiers : goal.returns-clause-identifiers
returns-clause-identifiers c = none_tagged_begins id_in SpellsMtsId (λ v p d h. id_full v p h)

pub returns-clause-trace_elements : goal.returns-clause-trace_elements
returns-clause-trace_elements c = none_tagged_begins trace_in SpellsTrace (λ v p d h. trace_full v p h)

pub returns-clause-supplied : goal.returns-clause-supplied
returns-clause-supplied c = none_begins supplied_in SpellsSupplied (λ v p d h. supplied_full v p h)

pub returns-clause-extension_fields : goal.returns-clause-extension_fields
returns-clause-extension_fields c = none_tagged_begins ext_in SpellsExtField (λ v p d h. ext_full v p h)

pub returns-clause-expansions : goal.returns-clause-expansions
returns-clause-expansions c = none_tagged_begins expansion_in SpellsExpansion (λ v p d h. expansion_full v p h)
