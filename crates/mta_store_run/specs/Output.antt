-- What is printed.
use Rattle.std.specs.Prelude.{ℕ, List, Result, Ok, Err}
use Rattle.mta_output.specs.Output.{HasPrinted, Output, HasToldLine}
use Rattle.mta_commands.specs.Lines.{line_of as agent_line_of}
use Rattle.mta_commands.specs.declared.stop.Stop.TheVariants as AgentStops
use Rattle.mta_store_run.specs.Stops.{line_of, status_of}
use Rattle.mta_store_run.specs.declared.stop.Stop.{Stop}

-- what telling a stop leaves
abbrev pub HasTold : Stop → Output → ℕ → Type 0
HasTold stop out status = HasToldLine (line_of stop) (agent_line_of AgentStops.Memory) (status_of stop) out status

-- what the end of a run leaves
abbrev pub HasClosed : Result (List ℕ) Stop → Output → ℕ → Type 0
HasClosed (Ok text) out status = HasPrinted text 0 out status
HasClosed (Err stop) out status = HasTold stop out status
