-- What recording tables and a turn leave.
use Rattle.std.specs.Prelude.{◌≡◌, ◌⊎◌, ℕ, List, [], Option, None, Some, Result, Ok, Err, true, false, if◌then◌else◌}
use Rattle.mta_edge.specs.Views.{DiskView}
use Rattle.mta_records.specs.declared.step.Step.{Step}
use Rattle.mta_records.specs.declared.step.Step.TheVariants as Steps
use Rattle.mta_records.specs.declared.fault.StepFault.{StepFault}
use Rattle.mta_records.specs.declared.fault.StepFault.TheVariants as StepFaults
use Rattle.mta_tables.specs.Tables.{TablesValue}
use Rattle.mta_machine.specs.Items.{Machine, numbered}
use Rattle.mta_machine.specs.Machine.{last_tables}
use Rattle.mta_machine.specs.Rules.{tables_value}
use Rattle.mta_histories.specs.Lanes.{State}
use Rattle.mta_histories.specs.Due.{IsQuiet, IsNext}
use Rattle.mta_spool.specs.declared.spool.Turned.{Turned}
use Rattle.mta_spool.specs.declared.spool.Turned.TheVariants.{Did, Quiet}
use Rattle.mta_spool.specs.Shown.{Shown}
use Rattle.mta_spool.specs.Stands.{Appends, fault_of}

-- the text is the one recorded last
abbrev pub IsRecorded : State → List ℕ → Type 0
IsRecorded s text = numbered s.machine.tables (last_tables s.machine) ≡ Some text

-- these are the tables recorded last, as their text reads, or none were recorded
abbrev pub IsLastRecorded : Machine → Option TablesValue → Type 0
IsLastRecorded m None = m.tables ≡ []
IsLastRecorded m (Some tables) =
    (numbered m.tables (last_tables m) ≡ Some tables.text) × (tables_value tables.text ≡ Some tables)

-- nothing but what the clock may answer has changed
abbrev pub IsUnchanged : {D C : Type 0} → Shown D C → Shown D C → Type 0
IsUnchanged old new =
    (new.journal ≡ old.journal) × (new.current ≡ old.current) × (new.entries ≡ old.entries)

-- Tables that are recorded last already make no step. Others are recorded by one, or the step is refused.
pub record Records {D C : Type 0} (model : DiskView D) (text : List ℕ) (old new : Shown D C)
    (result : Result (Unit {0}) StepFault) : Type 0 where
  pub same : IsRecorded old.current text
      → (new ≡ old) × (result ≡ (if old.journal.ended then Err StepFaults.Ended else Ok tt))
  pub appends : (IsRecorded old.current text → ⊥) → Appends model (Steps.Tables text) old new (fault_of result)
  pub recorded : result ≡ Ok tt → IsRecorded new.current text

-- A turn at a moment: the step that is next was made, none is due, an earlier step had answered Disk, the step that
-- is next was refused, or there was no memory to look for it.
abbrev pub Turns : {D C : Type 0} → DiskView D → ℕ → Shown D C → Shown D C → Result Turned StepFault
    → Type 0
Turns model when old new (Ok (Did step)) = IsNext old.current when step × Appends model step old new None
Turns model when old new (Ok (Quiet at)) =
    (old.journal.ended ≡ false) × (at ≡ when) × IsQuiet old.current when × IsUnchanged old new
Turns model when old new (Err fault) =
    ((fault ≡ StepFaults.Ended) × (old.journal.ended ≡ true) × IsUnchanged old new)
    ⊎ ((fault ≡ StepFaults.Memory) × (old.journal.ended ≡ false) × IsUnchanged old new)
    ⊎ ((old.journal.ended ≡ false)
    × ((step : Step) × IsNext old.current when step × Appends model step old new (Some fault)))
