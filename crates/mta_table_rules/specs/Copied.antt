-- What is asked of copies for peers.
use Rattle.std.specs.Prelude.{ℕ, ◌<◌, ◌≤◌, List, length, Option, Some, None}
use Rattle.mta_fields.specs.declared.trace.TraceFields.{TraceFields}
use Rattle.mta_envelope.specs.declared.place.Place.{Place}
use Rattle.mta_envelope.specs.Contents.{octets_of}
use Rattle.mta_apdu.specs.declared.apdu.Apdu.{Apdu}
use Rattle.mta_apdu.specs.declared.apdu.Apdu.TheVariants as apdu
use Rattle.mta_apdu.specs.Apdus.{ApduValue, message, probe, report}
use Rattle.mta_tables.specs.Tables.{TablesValue}
use Rattle.mta_procedures.specs.Copies.{longest_copy}
use Rattle.mta_procedures.specs.Traces.{longest_trace}
use Rattle.mta_machine.specs.Rules.{copy_under}
use Rattle.mta_state.specs.Readings.{IsCut}

-- at a place, where one is told
abbrev pub IsCutAt : List ℕ → List ℕ → Option Place → Type 0
IsCutAt whole octets None = Unit {0}
IsCutAt whole octets (Some place) = IsCut whole octets place.from place.to

-- the content of a message is of these octets, where a place is told
abbrev pub IsCutIn : List ℕ → Apdu → Type 0
IsCutIn whole (apdu.Message m) = IsCutAt whole (octets_of m.content) m.place
IsCutIn whole (apdu.Probe p) = Unit {0}
IsCutIn whole (apdu.Report r) = Unit {0}

abbrev pub trace_in : ApduValue → List TraceFields
trace_in (message v) = v.envelope.trace
trace_in (probe v) = v.trace
trace_in (report v) = v.trace

-- the trace has room for an element, and the copy can be sent
pub record HasCopy (t : TablesValue) (v : ApduValue) (arrival : ℕ) (rs : List ℕ) (moment : ℕ) : Type 0 where
  pub short_trace : length (trace_in v) < longest_trace
  pub few : length (copy_under t v arrival rs moment) ≤ longest_copy
