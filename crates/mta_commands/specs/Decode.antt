-- What `decode` reads and prints.
use Rattle.std.specs.Prelude.{◌≡◌, ℕ, List, Option, Some, Result, Ok, Err}
use Rattle.mta_edge.specs.Causes.{Rose}
use Rattle.mta_edge.specs.Views.{SourceView}
use Rattle.mta_apdu.specs.Apdus.{ApduValue, SpellsApdu, longest_apdu}
use Rattle.mta_apdu_text.specs.Apdus.{apdu_text}
use Rattle.mta_commands.specs.declared.stop.Stop.{Stop}
use Rattle.mta_commands.specs.Inputs.{IsDrawn, IsInputStop}
use Rattle.mta_output.specs.Output.{Output}
use Rattle.mta_commands.specs.Output.{PrintsOrFails}

-- the text of the APDU that octets spell, or why there is none
abbrev pub IsDecodedAs : List ℕ → Result (List ℕ) Stop → Type 0
IsDecodedAs octets (Ok text) = (v : ApduValue) × SpellsApdu octets v × (text ≡ apdu_text v)
IsDecodedAs octets (Err stop) = IsInputStop (Some octets) ⊥ stop

-- the text of the APDU that the input spells
abbrev pub IsApduText : Option (List ℕ) → List ℕ → Type 0
IsApduText input text =
    (i : List ℕ) → input ≡ Some i → (v : ApduValue) × SpellsApdu i v × (text ≡ apdu_text v)

-- what it leaves before its last line is printed
pub record HasDecoded {I : Type 0} (sources : SourceView I) (old new : I) (out : Output) (result
    : Result (Unit {0}) Stop) : Type 0 where
  pub drawn : IsDrawn sources longest_apdu old new
  pub printed : PrintsOrFails (IsInputStop (sources.left old) (Rose (sources.faults old) (sources.faults new)))
      (IsApduText (sources.left old)) out result
