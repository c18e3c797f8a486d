-- What a field keeps unread stands in the level of its place, where what has an indefinite length does.
use Rattle.std.proofs.Common.{◌≡◌, ℕ, ◌+◌, Option, Some, None, refl, arith}
use Rattle.mta_names.proofs.Definite.{some_fits, name_fits}
use Rattle.mta_names.proofs.Levels.{stands_everywhere}
use Rattle.mta_fields.specs.Definite.{DefiniteElementsStandEverywhere, SuppliedInformationThatFitsIsKept}
use Rattle.mta_fields.specs.Definite.{TraceElementsThatFitAreKept, ExtensionFieldsThatFitAreKept}
use Rattle.mta_fields.specs.Definite.{ExpansionsThatFitAreKept, SuppliedInformationThatFitsIsReadAgain}
use Rattle.mta_fields.specs.Definite.{TraceElementsThatFitAreReadAgain, ExtensionFieldsThatFitAreReadAgain}
use Rattle.mta_fields.specs.Definite.{ExpansionsThatFitAreReadAgain}
use Rattle.mta_fields.specs.Laws.{KeepsExtField}
use Rattle.mta_fields.proofs.ExtensionAgain.{extension_fields_again}
use Rattle.mta_fields.proofs.FieldAgain.{supplied_again, traces_again, expansions_again}

pub definite_everywhere : DefiniteElementsStandEverywhere
definite_everywhere depth size octets h is le = record {
  tag = h.tag;
  content = h.content;
  stands = stands_everywhere h.depth depth size h.tag h.content octets h.stands is le;
}

pub supplied_fits : SuppliedInformationThatFitsIsKept
supplied_fits depth v h fits le = some_fits (depth + 1) 1 5 v.converted h.supplied.converted fits le

pub trace_fits : TraceElementsThatFitAreKept
trace_fits depth v h fits le = supplied_fits (depth + 1) v.supplied h.supplied fits (omega arith)

pub extension_field_fits : ExtensionFieldsThatFitAreKept
extension_field_fits depth v h fits le = go h.value.stands.count refl
  where
    go : (count : Option ℕ) → h.value.stands.count ≡ count → KeepsExtField depth v
    go None is = fits h.value is
    go (Some size) is = definite_everywhere (depth + 2) size v.value h.value is le

pub expansion_fits : ExpansionsThatFitAreKept
expansion_fits depth v h fits le = name_fits (depth + 1) v.name h.name fits (omega arith)

pub fitting_supplied_again : SuppliedInformationThatFitsIsReadAgain
fitting_supplied_again depth v h fits le = supplied_again depth v h (supplied_fits depth v h fits (omega arith)) le

pub fitting_traces_again : TraceElementsThatFitAreReadAgain
fitting_traces_again depth v h fits le = traces_again depth v h (trace_fits depth v h fits (omega arith)) le

pub fitting_extension_fields_again : ExtensionFieldsThatFitAreReadAgain
fitting_extension_fields_again depth v h fits le =
    extension_fields_again depth v h (extension_field_fits depth v h fits le) le

pub fitting_expansions_again : ExpansionsThatFitAreReadAgain
fitting_expansions_again depth v h fits le = expansions_again depth v h (expansion_fits depth v h fits (omega arith)) le
