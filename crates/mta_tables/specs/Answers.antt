-- What a reader of tables answers, unless memory runs out.
use Rattle.std.specs.Prelude.{◌≡◌, ℕ, Result, Ok, Err}
use Rattle.mta_tables.specs.declared.fault.LineKind.{LineKind}
use Rattle.mta_tables.specs.declared.fault.TablesFault.{TablesFault}
use Rattle.mta_tables.specs.declared.fault.TablesFault.TheVariants as Faults
use Rattle.mta_tables.specs.Tables.{TablesValue}

-- these tables
abbrev pub IsReadAs : Result TablesValue TablesFault → TablesValue → Type 0
IsReadAs (Ok s) t = s ≡ t
IsReadAs (Err (Faults.BadLine line kind)) t = ⊥
IsReadAs (Err Faults.Memory) t = Unit {0}

-- that this line is bad, and why
abbrev pub IsRefusedAs : Result TablesValue TablesFault → ℕ → LineKind → Type 0
IsRefusedAs (Ok t) number kind = ⊥
IsRefusedAs (Err (Faults.BadLine line why)) number kind = (line ≡ number) × (why ≡ kind)
IsRefusedAs (Err Faults.Memory) number kind = Unit {0}
