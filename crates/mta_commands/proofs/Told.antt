-- A line that was told is that of a text, where it was made of it.
use Rattle.std.proofs.Common.{◌≡◌, ℕ, List, Result, Ok, Err, subst}
use Rattle.std.specs.Prelude.{IfOk}
use Rattle.mta_ber.specs.declared.memory.Memory.{Memory}
use Rattle.mta_output.specs.Output.{Output, HasToldLine}
use Rattle.mta_commands.specs.declared.stop.Stop.TheVariants as Stops
use Rattle.mta_commands.specs.Lines.{line_of}
use Rattle.mta_commands.specs.Output.{TellsLine}

pub line_told : (made : Result (List ℕ) Memory) (text : List ℕ) (good : ℕ) (out : Output) (status : ℕ)
    → IfOk made (λ l. l ≡ text) → TellsLine made good out status
    → HasToldLine text (line_of Stops.Memory) good out status
line_told (Ok l) text good out status is tells =
    subst (λ (t : List ℕ). HasToldLine t (line_of Stops.Memory) good out status) is tells
line_told (Err m) text good out status is tells = tells text
