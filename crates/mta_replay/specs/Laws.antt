-- What is possible before tables are recorded.
use Rattle.std.specs.Prelude.{◌≡◌, None}
use Rattle.mta_records.specs.declared.step.Step.{Step}
use Rattle.mta_machine.specs.Items.{numbered}
use Rattle.mta_machine.specs.Machine.{last_tables}
use Rattle.mta_histories.specs.Lanes.{State}
use Rattle.mta_histories.specs.Classes.{Class, begins, sets_format, accepts, class_of, on_lane, opens, records, settles}
use Rattle.mta_histories.specs.History.{IsPossible}
use Rattle.mta_histories.specs.Kept.{IsKept}

-- the step needs no tables: it records some, sets the format, or begins the history with a state
abbrev pub NeedsNoTables : Class → Type 0
NeedsNoTables (begins t) = Unit {0}
NeedsNoTables sets_format = Unit {0}
NeedsNoTables (records text) = Unit {0}
NeedsNoTables (accepts octets) = ⊥
NeedsNoTables (settles how i r) = ⊥
NeedsNoTables (opens role peer reference twa checkpoint window) = ⊥
NeedsNoTables (on_lane n generation step) = ⊥

-- before tables are recorded no other step is possible
abbrev pub TablesComeFirst : Type 0
TablesComeFirst =
    (s : State) (step : Step) → IsKept s → numbered s.machine.tables (last_tables s.machine) ≡ None
    → IsPossible s step → NeedsNoTables (class_of step)
