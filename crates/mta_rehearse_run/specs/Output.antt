-- What is printed.
use Rattle.std.specs.Prelude.{ℕ, Result, Ok, Err}
use Rattle.mta_output.specs.Output.{HasPrinted, Output, HasToldLine}
use Rattle.mta_rehearse_run.specs.declared.rehearsal.Rehearsal.{Rehearsal}
use Rattle.mta_rehearse_run.specs.declared.stop.Stop.{Stop}
use Rattle.mta_rehearse_run.specs.declared.stop.Stop.TheVariants as Stops
use Rattle.mta_rehearse_run.specs.Stops.{line_of, status_of}

-- what telling a stop leaves
abbrev pub HasTold : Stop → Output → ℕ → Type 0
HasTold stop out status = HasToldLine (line_of stop) (line_of Stops.Memory) (status_of stop) out status

-- what closing an outcome leaves
abbrev pub HasClosed : Result Rehearsal Stop → Output → ℕ → Type 0
HasClosed (Ok r) out status = HasPrinted r.text r.status out status
HasClosed (Err stop) out status = HasTold stop out status
