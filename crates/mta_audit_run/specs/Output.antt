-- What is printed.
use Rattle.std.specs.Prelude.{ℕ, Result, Ok, Err}
use Rattle.mta_output.specs.Output.{HasPrinted, Output, HasToldLine}
use Rattle.mta_audit_run.specs.declared.audit.Report.{Report}
use Rattle.mta_audit_run.specs.declared.stop.Stop.{Stop}
use Rattle.mta_audit_run.specs.declared.stop.Stop.TheVariants as Stops
use Rattle.mta_audit_run.specs.Stops.{line_of, status_of, status_by}

-- what telling a stop leaves
abbrev pub HasTold : Stop → Output → ℕ → Type 0
HasTold stop out status = HasToldLine (line_of stop) (line_of Stops.Memory) (status_of stop) out status

-- what closing an outcome leaves
abbrev pub HasClosed : Result Report Stop → Output → ℕ → Type 0
HasClosed (Ok r) out status = HasPrinted r.text (status_by r.agrees) out status
HasClosed (Err stop) out status = HasTold stop out status
