-- Why a command ended without its result: the line and the status of each cause.
use Rattle.std.specs.Prelude.{ℕ, List, ◌∷◌, [], ◌++◌, codes}
use Rattle.std.specs.Fmt.{decimal}
use Rattle.mta_journal.specs.declared.journal.AppendFault.{AppendFault}
use Rattle.mta_journal.specs.declared.journal.AppendFault.TheVariants as Faults
use Rattle.mta_journal.specs.declared.why.OpenWhy.{OpenWhy as MarksWhy}
use Rattle.mta_journal.specs.declared.why.OpenWhy.TheVariants as MarksWhys
use Rattle.mta_commands.specs.Lines.{line_of as agent_line_of, status_of as agent_status_of}
use Rattle.mta_commands.specs.declared.stop.Stop.TheVariants as AgentStops
use Rattle.mta_store_run.specs.declared.stop.Stop.{Stop}
use Rattle.mta_store_run.specs.declared.stop.Stop.TheVariants as Stops

abbrev pub stop_of_marks : MarksWhy → Stop
stop_of_marks (MarksWhys.NotSpool at) = Stops.NotMarks at
stop_of_marks MarksWhys.Disk = Stops.Agent AgentStops.Disk
stop_of_marks MarksWhys.Memory = Stops.Agent AgentStops.Memory

abbrev pub stop_of_add : AppendFault → Stop
stop_of_add (Faults.Full size need) = Stops.Agent (AgentStops.Full size need)
stop_of_add Faults.Disk = Stops.Agent AgentStops.Disk
stop_of_add Faults.Ended = Stops.Agent AgentStops.Disk
stop_of_add Faults.Memory = Stops.Agent AgentStops.Memory

unfoldable pub line_of : Stop → List ℕ
line_of Stops.Usage = codes "usage: mta_store list or fetch or delete\n"
line_of (Stops.Agent stop) = agent_line_of stop
line_of (Stops.NoEntry number) = codes "no entry " ++ (decimal number ++ 10 ∷ [])
line_of (Stops.NotFetched number) = codes "not fetched " ++ (decimal number ++ 10 ∷ [])
line_of (Stops.NotMarks at) = codes "not marks at " ++ (decimal at ++ 10 ∷ [])

abbrev pub status_of : Stop → ℕ
status_of Stops.Usage = 1
status_of (Stops.Agent stop) = agent_status_of stop
status_of (Stops.NoEntry number) = 12
status_of (Stops.NotFetched number) = 13
status_of (Stops.NotMarks at) = 14
