-- What `drill` prints.
use Rattle.std.specs.Prelude.{◌≡◌, ℕ, List, Result, Ok, Err}
use Rattle.mta_commands.specs.declared.stop.Stop.{Stop}
use Rattle.mta_commands.specs.declared.stop.Stop.TheVariants as Stops
use Rattle.mta_output.specs.Output.{Output}
use Rattle.mta_commands.specs.Output.{PrintsOrFails}
use Rattle.mta_drill_text.specs.Text.{drill_text}

-- why there is no text of a drill: memory is wanted
abbrev pub IsDrillStop : Stop → Type 0
IsDrillStop stop = stop ≡ Stops.Memory

-- the text of a drill of so many messages, or memory is wanted
abbrev pub IsDrilledAs : ℕ → Result (List ℕ) Stop → Type 0
IsDrilledAs messages (Ok text) = text ≡ drill_text messages
IsDrilledAs messages (Err stop) = IsDrillStop stop

-- what it leaves before its last line is printed
abbrev pub HasPrintedDrill : ℕ → Output → Result (Unit {0}) Stop → Type 0
HasPrintedDrill messages out result = PrintsOrFails IsDrillStop (λ text. text ≡ drill_text messages) out result
