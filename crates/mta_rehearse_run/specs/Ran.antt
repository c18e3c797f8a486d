-- What a run of the program leaves.
use Rattle.std.specs.Prelude.{◌≡◌, ◌⊎◌, ℕ, List, Option, Some, None, Result, Ok}
use Rattle.mta_edge.specs.Causes.{Rose}
use Rattle.mta_edge.specs.Views.{SourceView}
use Rattle.mta_tables.specs.Reading.{bad}
use Rattle.mta_tables.specs.Tables.{TablesValue}
use Rattle.mta_tables.specs.declared.fault.LineKind.{LineKind}
use Rattle.mta_rehearse_run.specs.declared.asked.Asked.{Asked}
use Rattle.mta_rehearse_run.specs.declared.rehearsal.Rehearsal.{Rehearsal}
use Rattle.mta_rehearse_run.specs.declared.stop.Stop.{Stop}
use Rattle.mta_rehearse_run.specs.declared.walked.Walk.{Walk}
use Rattle.mta_rehearse_run.specs.Agents.{agent_named, AreApart, IsFirstTwice}
use Rattle.mta_rehearse_run.specs.Network.{network_of, AreTablesIn, IsDrawn}
use Rattle.mta_output.specs.Output.{Output, OutputFailed, Prints}
use Rattle.mta_rehearse_run.specs.Output.{HasClosed}
use Rattle.mta_rehearse_run.specs.Rehearsal.{ShowsAsked, Outcome}
use Rattle.mta_rehearse_run.specs.Walks.{IsWalk}
use Rattle.mta_rehearse_run.specs.WalkText.{status_of}

-- What becomes of the source, and what is printed: the text of the walk, or the line of a stop that has its cause.
-- `asked` is what the words ask.
pub record HasRun {I : Type 0} (sources : SourceView I) (asked : Option Asked) (conf conf_after : I) (out : Output)
    (status : ℕ) : Type 0 where
  -- no more is taken of the source than shows that it is too long, and nothing where the words ask nothing
  pub drawn : IsDrawn sources conf conf_after
  pub untouched : asked ≡ None → conf_after ≡ conf
  -- with status 0, 20 or 21 the text is that of the walk; else it is the line of a stop
  pub result : Result Rehearsal Stop
  pub outcome : Outcome (sources.left conf) (Rose (sources.faults conf) (sources.faults conf_after)) asked result
  pub closed : HasClosed result out status

-- the status for which the words and the octets of the texts call
pub data CallsFor (asked : Option Asked) (octets : List ℕ) : ℕ → Type 0 where
  usage : asked ≡ None → CallsFor asked octets 1
  bad_line : (a : Asked) (line : ℕ) (kind : LineKind) → asked ≡ Some a → network_of octets ≡ bad line kind
      → CallsFor asked octets 2
  twice : (a : Asked) (agents : List TablesValue) (number : ℕ) → asked ≡ Some a
      → network_of octets ≡ Ok agents
      → IsFirstTwice agents number → CallsFor asked octets 19
  no_agent : (a : Asked) (agents : List TablesValue) → asked ≡ Some a → network_of octets ≡ Ok agents
      → AreApart agents → agent_named agents a.agent ≡ None → CallsFor asked octets 10
  walked : (a : Asked) (agents : List TablesValue) (start : ℕ) (w : Walk) → asked ≡ Some a
      → network_of octets ≡ Ok agents → AreApart agents → agent_named agents a.agent ≡ Some start
      → IsWalk agents start a.name w → CallsFor asked octets (status_of w.end)

-- this status; or memory ran out, or the source or the output failed
abbrev pub IsOrFails : (wanted : ℕ) → (failed : Type 0) → Output → ℕ → Type 0
IsOrFails wanted failed out status =
    (status ≡ wanted) ⊎ (status ≡ 7) ⊎ ((status ≡ 8) × failed) ⊎ ((status ≡ 9) × OutputFailed out)

-- the words and the octets call for this status; or memory ran out, or the source or the output failed
abbrev pub IsCalledForOrFails : Option Asked → List ℕ → (failed : Type 0) → Output → ℕ → Type 0
IsCalledForOrFails asked octets failed out status =
    CallsFor asked octets status ⊎ (status ≡ 7) ⊎ ((status ≡ 8) × failed)
    ⊎ ((status ≡ 9) × OutputFailed out)

-- the statuses of walks
abbrev pub IsOfWalk : ℕ → Type 0
IsOfWalk status = (status ≡ 0) ⊎ (status ≡ 20) ⊎ (status ≡ 21)

-- the text of the walk that is asked for is printed, and the status is that of its end
pub record PrintsWalk (told : Option (List ℕ)) (asked : Option Asked) (out : Output) (status : ℕ) : Type 0 where
  pub a : Asked
  pub asked_is : asked ≡ Some a
  pub agents : List TablesValue
  pub read : AreTablesIn told agents
  pub rehearsal : Rehearsal
  pub shown : ShowsAsked agents a rehearsal
  pub printed : Prints out rehearsal.text
  pub status_is : status ≡ rehearsal.status

-- What a status tells by itself. Want of memory, 7, is free.
pub record Tells {I : Type 0} (sources : SourceView I) (asked : Option Asked) (conf conf_after : I) (out : Output)
    (status : ℕ) : Type 0 where
  -- where the source tells its octets, the status is the one for which the words and these call, and no other
  pub exact : (octets : List ℕ) (wanted : ℕ) → sources.left conf ≡ Some octets → CallsFor asked octets wanted
      → IsOrFails wanted (Rose (sources.faults conf) (sources.faults conf_after)) out status
  pub only : (octets : List ℕ) → sources.left conf ≡ Some octets
      → IsCalledForOrFails asked octets (Rose (sources.faults conf) (sources.faults conf_after)) out status
  -- with status 0, 20 or 21 the text is that of the walk, whether the source tells its octets or not
  pub walked : IsOfWalk status → PrintsWalk (sources.left conf) asked out status
  -- and where it does not, 1 comes all the same exactly where the words ask nothing, but for want of memory and a
  -- fault of the output
  pub usage : status ≡ 1 → asked ≡ None
  pub usage_where : asked ≡ None → (status ≡ 1) ⊎ (status ≡ 7) ⊎ ((status ≡ 9) × OutputFailed out)
  pub source : status ≡ 8 → Rose (sources.faults conf) (sources.faults conf_after)
  pub sink : status ≡ 9 → OutputFailed out

-- All is in order, and nothing fails.
pub record AllInOrder {I : Type 0} (sources : SourceView I) (asked : Option Asked) (conf conf_after : I) (out : Output)
    : Type 0 where
  pub a : Asked
  pub asked_is : asked ≡ Some a
  pub octets : List ℕ
  pub told : sources.left conf ≡ Some octets
  pub agents : List TablesValue
  pub read : network_of octets ≡ Ok agents
  pub apart : AreApart agents
  pub start : ℕ
  pub named : agent_named agents a.agent ≡ Some start
  pub calm_source : Rose (sources.faults conf) (sources.faults conf_after) → ⊥
  pub calm_output : OutputFailed out → ⊥

-- Then the status is that of a walk, or memory ran out.
abbrev pub IsComplete : {I : Type 0} → SourceView I → Option Asked → (conf conf_after : I) → Output → ℕ
    → Type 0
IsComplete sources asked conf conf_after out status =
    AllInOrder sources asked conf conf_after out
    → (status ≡ 0) ⊎ (status ≡ 20) ⊎ (status ≡ 21) ⊎ (status ≡ 7)
