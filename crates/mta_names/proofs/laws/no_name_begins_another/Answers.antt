use Rattle.mta_names.specs.Extensions.{extensions_in, SpellsExtensions}
use Rattle.mta_names.specs.Labels.{country_in, label_in, SpellsLabel}
use Rattle.mta_names.specs.Lists.{units_in, pairs_in, SpellsUnits, SpellsPairs}
use Rattle.mta_names.specs.Names.{name_in, SpellsName}
use Rattle.mta_names.specs.Persons.{person_in, SpellsPerson}
use Rattle.mta_names.specs.Standard.{standard_in, SpellsStandard}
use Rattle.mta_names.specs.Values.{IsCountry, IsLabel}
use Rattle.mta_names.proofs.ExtensionLaws.{extensions_full}
use Rattle.mta_names.proofs.LabelLaws.{country_full, label_full}
use Rattle.mta_names.proofs.ListLaws.{units_full, pairs_full}
use Rattle.mta_names.proofs.NameLaws.{name_full}
use Rattle.mta_names.proofs.PersonLaws.{person_full}
use Rattle.mta_names.proofs.Rows.{none_begins}
use Rattle.mta_names.proofs.StandardLaws.{standard_full}
use Rattle.mta_names.proofs.laws.no_name_begins_another.Goals as goal

pub returns-clause-names : goal.returns-clause-names
returns-clause-names c = none_begins name_in SpellsName (λ v p d h. name_full v p h)

pub returns-clause-countries : goal.returns-clause-countries
returns-clause-countries c = none_begins country_in (SpellsLabel IsCountry) (λ v p d h. country_full v p h)

pub returns-clause-labels : goal.returns-clause-labels
returns-clause-labels c = λ low high. none_begins (label_in low high) (SpellsLabel (IsLabel low high))
    (λ v p d h. label_full low high v p h)

pub returns-clause-personal_names : goal.returns-clause-personal_names
returns-clause-personal_names c = none_begins person_in SpellsPerson (λ v p d h. person_full v p h)

pub returns-clause-unit_names : goal.returns-clause-unit_names
returns-clause-unit_names c = none_begins units_in SpellsUnits (λ v p d h. units_full v p h)

pub returns-clause-domain_defined_attributes : goal.returns-clause-domain_defined_attributes
returns-clause-domain_defined_attributes c = none_begins pairs_in SpellsPairs (λ v p d h. pairs_full v p h)

pub returns-clause-extension_attributes : goal.returns-clause-extension_attributes
returns-clause-extension_attributes c = none_begins extensions_in SpellsExtensions (λ v p d h. extensions_full v p h)

pub returns-clause-standard_attributes : goal.returns-clause-standard_attributes
returns-clause-standard_attributes c = none_begins standard_in SpellsStandard (λ v p d h. standard_full v p h)
