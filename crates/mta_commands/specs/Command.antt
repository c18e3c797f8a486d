-- What a command leaves.
use Rattle.std.specs.Prelude.{◌≡◌, ℕ, List, [], ◌++◌, Result, Ok}
use Rattle.mta_records.specs.declared.step.Step.{Step}
use Rattle.mta_apdu.specs.Apdus.{longest_apdu}
use Rattle.mta_histories.specs.Due.{IsQuiet}
use Rattle.mta_histories.specs.History.{after, IsHistory}
use Rattle.mta_spool.specs.Stands.{step_moment}
use Rattle.mta_spool.specs.Turning.{IsRecorded}
use Rattle.mta_stations.specs.declared.end.WorkerEnd.{WorkerEnd}
use Rattle.mta_stations.specs.Deciding.{halts_of, IsUndecided}
use Rattle.mta_commands.specs.declared.stop.Stop.{Stop}
use Rattle.mta_commands.specs.Words.{AddsSteps, ReadsTables, ReadsApdu, OpensDisk, Serves}
use Rattle.mta_commands.specs.Handed.{Handed, ForTables, ForInput, ForOpened, ForOpenedDisk}
use Rattle.mta_output.specs.Output.{Output}
use Rattle.mta_commands.specs.Output.{PrintsOrFails}
use Rattle.mta_commands.specs.Inputs.{longest_tables, IsDrawn}
use Rattle.mta_commands.specs.DiskLeft.{Opening, uncalled, DiskLeft}
use Rattle.mta_commands.specs.Images.{IsSafeBefore}
use Rattle.mta_commands.specs.Provenance.{AreOfCall}
use Rattle.mta_commands.specs.Submit.{AreOwn, AreInTurn}
use Rattle.mta_commands.specs.Causes.{Cause, IsText}

-- nothing is due after these steps, at a moment that is the greater of their last one and one that the clock tells
abbrev pub NothingIsDue : (ℕ → Type 0) → List Step → Type 0
NothingIsDue tells steps = (told : ℕ) × tells told × IsQuiet (after steps) (step_moment told (after steps).moment)

-- What becomes of the sources: one that the command does not read is the same, and no more is taken of one than
-- shows that it is too long.
pub record SourcesLeft {D C I : Type 0} (h : Handed D C I) : Type 0 where
  pub conf_untouched : (ReadsTables h.words → ⊥) → h.conf.after ≡ h.conf.before
  pub input_untouched : (ReadsApdu h.words → ⊥) → h.input.after ≡ h.input.before
  pub conf : IsDrawn h.sources longest_tables h.conf.before h.conf.after
  pub input : IsDrawn h.sources longest_apdu h.input.before h.input.after

-- what is known of the stations, for the ends of the workers and the steps that were added
abbrev pub OnStations : Type 1
OnStations = Opening → (ends : List WorkerEnd) → (added torn_step : List Step) → Type 0

-- no worker worked
abbrev pub NoneWorked : Opening → (ends : List WorkerEnd) → (added torn_step : List Step) → Type 0
NoneWorked opening ends added torn_step = ends ≡ []

-- What a command leaves before its last line is printed.
pub record HasEnded {D C I : Type 0} (h : Handed D C I) (stations : OnStations) (out : Output)
    (result : Result (Unit {0}) Stop) : Type 0 where
  pub opening : Opening
  pub ends : List WorkerEnd
  pub added : List Step
  pub torn_step : List Step
  pub sources : SourcesLeft h
  pub disk : DiskLeft h.disks h.disk.before h.disk.after opening added torn_step
  pub uncalled_unless : (OpensDisk h.words → ⊥) → opening ≡ uncalled
  -- before the first sync a crash leaves what one before the call might have left: of `serve` this is not told
  pub safe_before : (Serves h.words → ⊥)
      → ForOpenedDisk h (λ f steps. IsSafeBefore h.disks f steps (added ++ torn_step) h.disk.before h.disk.after)
  pub printed : PrintsOrFails (Cause h ends added opening) (IsText h ends added opening) out result
  pub history : ForOpened h (λ steps. IsHistory (steps ++ (added ++ torn_step)))
  pub own : (Serves h.words → ⊥) → ForTables h (λ c. ForInput h (λ i. ForOpened h (λ steps.
      AreOwn (h.clocks.tells h.clock) c i (after steps) (added ++ torn_step))))
  pub in_turn : (Serves h.words → ⊥) → AreInTurn 0 (added ++ torn_step)
  pub of_call : AreOfCall h added
  pub only_adding : (AddsSteps h.words → ⊥) → added ++ torn_step ≡ []
  pub calm : result ≡ Ok tt → torn_step ≡ []
  pub settled : AddsSteps h.words → result ≡ Ok tt
      → ForOpened h (λ steps. NothingIsDue (h.clocks.tells h.clock) (steps ++ added))
  pub recorded : AddsSteps h.words → result ≡ Ok tt
      → ForTables h (λ c. ForOpened h (λ steps. IsRecorded (after (steps ++ added)) c))
  pub undecided : result ≡ Ok tt → IsUndecided (halts_of ends)
  pub stations_are : stations opening ends added torn_step
