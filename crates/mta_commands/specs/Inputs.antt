-- What is read before the disk is opened: the tables, and an APDU.
use Rattle.std.specs.Prelude.{◌≡◌, ◌≤◌, ◌+◌, ℕ, List, Option, Some, Result, Ok, Err}
use Rattle.mta_ber.specs.declared.fault.Fault.{Fault}
use Rattle.mta_ber.specs.declared.fault.Kind.{Kind}
use Rattle.mta_ber.specs.declared.fault.ReadFault.{ReadFault}
use Rattle.mta_ber.specs.declared.fault.ReadFault.TheVariants.{Bad, Memory}
use Rattle.mta_edge.specs.Causes.{Rose}
use Rattle.mta_edge.specs.Views.{SourceView}
use Rattle.mta_tables.specs.Tables.{TablesValue, tables_of}
use Rattle.mta_tables.specs.Grammar.{IsFirstBadLine}
use Rattle.mta_apdu.specs.Apdus.{longest_apdu, apdu_of}
use Rattle.mta_machine.specs.Apdu.{IsApdu}
use Rattle.mta_edge.specs.Streams.{TakesAtMost}
use Rattle.mta_commands.specs.declared.stop.Stop.{Stop}
use Rattle.mta_commands.specs.declared.stop.Stop.TheVariants as Stops
use Rattle.mta_commands.specs.declared.inputs.Inputs.{Inputs}

-- the most octets of tables
abbrev pub longest_tables : ℕ
longest_tables = 1048576

-- these are the octets of the source, where it tells them
abbrev pub IsTold : Option (List ℕ) → List ℕ → Type 0
IsTold told octets = (c : List ℕ) → told ≡ Some c → octets ≡ c

-- what reading a source of at most so many octets leaves of it: its count of faults does not fall, and one octet
-- more is taken at most
pub record IsDrawn {I : Type 0} (sources : SourceView I) (longest : ℕ) (old new : I) : Type 0 where
  pub later : sources.faults old ≤ sources.faults new
  pub most : TakesAtMost sources (longest + 1) old new

-- ---- the tables

-- the grammar of tables reads the text
abbrev pub IsReadAsTables : List ℕ → Type 0
IsReadAsTables text = (t : TablesValue) × (tables_of text ≡ Ok t)

-- the tables of the text, or why there are none
abbrev pub AreTablesRead : Option (List ℕ) → (failed : Type 0) → Result TablesValue Stop → Type 0
AreTablesRead conf failed (Ok t) = IsTold conf t.text × (tables_of t.text ≡ Ok t)
AreTablesRead conf failed (Err (Stops.Tables line kind)) =
    (c : List ℕ) → conf ≡ Some c → IsFirstBadLine c line kind
AreTablesRead conf failed (Err Stops.Source) = failed
AreTablesRead conf failed (Err Stops.Memory) = Unit {0}
AreTablesRead conf failed (Err other) = ⊥

pub record HasTables {I : Type 0} (sources : SourceView I) (old new : I) (result : Result TablesValue Stop)
    : Type 0 where
  pub drawn : IsDrawn sources longest_tables old new
  pub read : AreTablesRead (sources.left old) (Rose (sources.faults old) (sources.faults new)) result

-- ---- an APDU

-- the octets spell no APDU, and this is their first fault
abbrev pub HasFault : List ℕ → Fault → Type 0
HasFault octets fault = apdu_of octets ≡ Err fault

-- the input, where it is told, has this first fault
abbrev pub HasFirstFault : Option (List ℕ) → ℕ → Kind → Type 0
HasFirstFault input at kind = (i : List ℕ) → input ≡ Some i → HasFault i (record { at = at; kind = kind })

-- why the input, or an APDU in it, was not read
abbrev pub IsInputStop : Option (List ℕ) → (failed : Type 0) → Stop → Type 0
IsInputStop input failed (Stops.BadApdu at kind) = HasFirstFault input at kind
IsInputStop input failed Stops.Source = failed
IsInputStop input failed Stops.Memory = Unit {0}
IsInputStop input failed other = ⊥

-- the octets of an input that is not too long for an APDU, or why they are not there
abbrev pub AreOctetsRead : Option (List ℕ) → (failed : Type 0) → Result (List ℕ) Stop → Type 0
AreOctetsRead input failed (Ok octets) = IsTold input octets
AreOctetsRead input failed (Err stop) = IsInputStop input failed stop

pub record HasOctets {I : Type 0} (sources : SourceView I) (old new : I) (result : Result (List ℕ) Stop)
    : Type 0 where
  pub drawn : IsDrawn sources longest_apdu old new
  pub read : AreOctetsRead (sources.left old) (Rose (sources.faults old) (sources.faults new)) result

abbrev pub stop_of_read : ReadFault → Stop
stop_of_read (Bad fault) = Stops.BadApdu fault.at fault.kind
stop_of_read Memory = Stops.Memory

-- octets that spell an APDU, or why they do not
abbrev pub IsChecked : List ℕ → Result (Unit {0}) Stop → Type 0
IsChecked octets (Ok done) = IsApdu octets
IsChecked octets (Err stop) = IsInputStop (Some octets) ⊥ stop

-- an APDU, or why there is none
abbrev pub IsInputRead : Option (List ℕ) → (failed : Type 0) → Result (List ℕ) Stop → Type 0
IsInputRead input failed (Ok apdu) = IsTold input apdu × IsApdu apdu
IsInputRead input failed (Err stop) = IsInputStop input failed stop

pub record HasInput {I : Type 0} (sources : SourceView I) (old new : I) (result : Result (List ℕ) Stop) : Type 0 where
  pub drawn : IsDrawn sources longest_apdu old new
  pub read : IsInputRead (sources.left old) (Rose (sources.faults old) (sources.faults new)) result

-- ---- the tables, and then an APDU

-- The tables were not read, and the input was not called; or they were, and then the APDU was not; or both were.
pub data HasInputs {I : Type 0} (sources : SourceView I) (conf conf_after input input_after : I)
    : Result Inputs Stop → Type 0 where
  no_tables : (stop : Stop) → HasTables sources conf conf_after (Err stop) → input_after ≡ input
      → HasInputs sources conf conf_after input input_after (Err stop)
  no_apdu : (stop : Stop) (tables : TablesValue) → HasTables sources conf conf_after (Ok tables)
      → HasInput sources input input_after (Err stop)
      → HasInputs sources conf conf_after input input_after (Err stop)
  both : (x : Inputs) → HasTables sources conf conf_after (Ok x.tables)
      → HasInput sources input input_after (Ok x.apdu) → HasInputs sources conf conf_after input input_after (Ok x)
