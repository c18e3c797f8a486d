-- What a line changes of what has been said, unless memory runs out.
use Rattle.std.specs.Prelude.{◌≡◌, ℕ, Result, Ok, Err}
use Rattle.mta_tables.specs.declared.draft.Draft.{Draft}
use Rattle.mta_tables.specs.declared.fault.LineFault.{LineFault}
use Rattle.mta_tables.specs.declared.fault.LineFault.TheVariants as LineFaults
use Rattle.mta_tables.specs.declared.fault.LineKind.{LineKind}
use Rattle.mta_tables.specs.declared.fault.TablesFault.{TablesFault}
use Rattle.mta_tables.specs.declared.fault.TablesFault.TheVariants as Faults

abbrev pub Leaves : {A : Type 0} → Result A LineFault → Draft → Result Draft LineKind → Type 0
Leaves (Ok x) new read = read ≡ Ok new
Leaves (Err (LineFaults.Bad kind)) new read = read ≡ Err kind
Leaves (Err LineFaults.Memory) new read = Unit {0}

abbrev pub Takes : {A : Type 0} → ℕ → Result A TablesFault → Draft → Result Draft LineKind → Type 0
Takes number (Ok x) new read = read ≡ Ok new
Takes number (Err (Faults.BadLine line kind)) new read = (line ≡ number) × (read ≡ Err kind)
Takes number (Err Faults.Memory) new read = Unit {0}
