-- The audit of two histories.
use Rattle.std.specs.Prelude.{ℕ, List, ◌++◌, Option}
use Rattle.std.specs.Option.{option_map, option_and_then}
use Rattle.mta_tables.specs.Tables.{TablesValue}
use Rattle.mta_machine.specs.Items.{Machine, numbered}
use Rattle.mta_machine.specs.Machine.{last_tables}
use Rattle.mta_machine.specs.Rules.{tables_value}
use Rattle.mta_records.specs.declared.step.Step.{Step}
use Rattle.mta_histories.specs.History.{after}
use Rattle.mta_audit_run.specs.declared.stop.Spool.TheVariants.{First, Second}
use Rattle.mta_audit_run.specs.Accounts.{accounts, begins_with_snapshot}
use Rattle.mta_audit_run.specs.Lines.{Line, lines_from}

-- ---- whose spool it is

abbrev pub own_in : TablesValue → List ℕ
own_in t = t.own

-- the agent's own name by the tables recorded last; none where none were recorded
abbrev pub own_by : Machine → Option (List ℕ)
own_by m = option_map own_in (option_and_then tables_value (numbered m.tables (last_tables m)))

abbrev pub own_of : List Step → Option (List ℕ)
own_of steps = own_by (after steps).machine

-- ---- its lines

-- the lines of two histories: of the lanes of the first to the second, and then of those of the second to the first
abbrev pub lines_of : List Step → List Step → List Line
lines_of s t =
    lines_from First (own_of s) (own_of t) (begins_with_snapshot t) (accounts t) (accounts s)
    ++ lines_from Second (own_of t) (own_of s) (begins_with_snapshot s) (accounts s) (accounts t)
