-- What is printed.
use Rattle.std.specs.Prelude.{◌≡◌, ◌≢◌, ◌⊎◌, ℕ, List, [], ◌++◌, Result, Ok, Err}
use Rattle.mta_ber.specs.declared.memory.Memory.{Memory}
use Rattle.mta_output.specs.Output.{Output, Prints, PrintsFront, HasToldLine}
use Rattle.mta_commands.specs.declared.stop.Stop.{Stop}
use Rattle.mta_commands.specs.declared.stop.Stop.TheVariants as Stops
use Rattle.mta_commands.specs.Lines.{line_of, status_of}

-- nothing, or what the command prints
abbrev pub IsFront : (List ℕ → Type 0) → List ℕ → Type 0
IsFront IsText text = (text ≡ []) ⊎ IsText text

-- What a command printed before its last line: its text; or nothing or its text, and then it stopped, for a cause;
-- or a front of its text, where the output failed.
pub data PrintsOrFails (Cause : Stop → Type 0) (IsText : List ℕ → Type 0) (out : Output) : Result (Unit {0}) Stop
    → Type 0 where
  whole : (done : Unit {0}) (text : List ℕ) → IsText text → Prints out text
      → PrintsOrFails Cause IsText out (Ok done)
  stopped : (stop : Stop) → Cause stop → (text : List ℕ) → IsFront IsText text → Prints out text
      → PrintsOrFails Cause IsText out (Err stop)
  cut : (text : List ℕ) → IsText text → PrintsFront out text → PrintsOrFails Cause IsText out (Err Stops.Sink)

-- What a run printed, and its status. With status 0 it is the text. Else it is the line of a stop that has its
-- cause and that status, behind nothing or the text. With status 9, which takes over where the output failed, one
-- of these is cut or missing.
pub data IsEnded (Cause : Stop → Type 0) (IsText : List ℕ → Type 0) (out : Output) (status : ℕ) : Type 0 where
  done : status ≡ 0 → (text : List ℕ) → IsText text → Prints out text → IsEnded Cause IsText out status
  told : (stop : Stop) → Cause stop → status ≡ status_of stop → (text : List ℕ) → IsFront IsText text
      → Prints out (text ++ line_of stop)
      → IsEnded Cause IsText out status
  cut_text : status ≡ 9 → (text : List ℕ) → IsText text → PrintsFront out text
      → IsEnded Cause IsText out status
  cut_line : status ≡ 9 → (stop : Stop) → Cause stop → (text : List ℕ) → IsFront IsText text
      → PrintsFront out (text ++ line_of stop)
      → IsEnded Cause IsText out status

-- what telling a line leaves that was made, or for which there was no memory
abbrev pub TellsLine : Result (List ℕ) Memory → ℕ → Output → ℕ → Type 0
TellsLine (Ok text) good out status = HasToldLine text (line_of Stops.Memory) good out status
TellsLine (Err m) good out status = (text : List ℕ) → HasToldLine text (line_of Stops.Memory) good out status

-- what telling a stop leaves
abbrev pub HasTold : Stop → Output → ℕ → Type 0
HasTold stop out status = HasToldLine (line_of stop) (line_of Stops.Memory) (status_of stop) out status

-- what the end of a run adds to what its command printed: nothing with 0, nothing with 9 where the output failed
-- already, or a stop is told
abbrev pub HasClosed : Result (Unit {0}) Stop → Output → ℕ → Type 0
HasClosed (Ok nothing) out status = (status ≡ 0) × (out.after ≡ out.before)
HasClosed (Err stop) out status =
    ((stop ≡ Stops.Sink) × (status ≡ 9) × (out.after ≡ out.before))
    ⊎ ((stop ≢ Stops.Sink) × HasTold stop out status)

-- a text was printed, or the output took a front of it; a stop was handed on
abbrev pub HasShown : Result (List ℕ) Stop → Output → Result (Unit {0}) Stop → Type 0
HasShown (Ok text) out (Ok nothing) = Prints out text
HasShown (Ok text) out (Err stop) = (stop ≡ Stops.Sink) × PrintsFront out text
HasShown (Err stop) out (Ok nothing) = ⊥
HasShown (Err stop) out (Err other) = (other ≡ stop) × (out.after ≡ out.before)
