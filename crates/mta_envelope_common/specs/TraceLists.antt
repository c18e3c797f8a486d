-- Traces (X.411, TraceInformation): a SEQUENCE of 0 to 512 trace elements.
use Rattle.std.specs.Prelude.{ℕ, Bool, List, Result}
use Rattle.std.specs.List.{flat_map}
use Rattle.mta_ber.specs.declared.fault.Fault.{Fault}
use Rattle.mta_ber.specs.Canon.{element, constructed}
use Rattle.mta_ber.specs.Element.{Part}
use Rattle.mta_ber.specs.Explicit.{Spells}
use Rattle.mta_names.specs.Lists.{is_sequence, list_in, SpellsList}
use Rattle.mta_names.specs.Strings.{item_step}
use Rattle.mta_fields.specs.declared.trace.TraceFields.{TraceFields}
use Rattle.mta_fields.specs.TraceElements.{trace_in, SpellsTrace, canonical_trace}

abbrev pub trace_list_step : List TraceFields → Part → Result (List TraceFields) Fault
trace_list_step vs p = item_step is_sequence trace_in vs p

unfoldable pub trace_list_in : Part → Result (List TraceFields) Fault
trace_list_in p = list_in is_sequence trace_in 0 512 p

abbrev pub SpellsTraceItem : Spells TraceFields
SpellsTraceItem depth tag content octets v = SpellsTrace depth tag content v

abbrev pub SpellsTraceList : ℕ → Bool → List ℕ → List TraceFields → Type 0
SpellsTraceList depth constructed content vs = SpellsList is_sequence SpellsTraceItem 0 512 depth constructed content vs

-- the one spelling that is written, under [APPLICATION 9]
unfoldable pub canonical_trace_list : List TraceFields → List ℕ
canonical_trace_list vs = element (constructed 1 9) (flat_map canonical_trace vs)
