-- Whose the steps are that a command adds, whichever it is.
use Rattle.std.specs.Prelude.{◌≡◌, ℕ, List, [], ◌∷◌, Some}
use Rattle.mta_records.specs.declared.step.Step.{Step}
use Rattle.mta_histories.specs.Classes.{Class, class_of}
use Rattle.mta_histories.specs.Classes as classes
use Rattle.mta_histories.specs.History.{after}
use Rattle.mta_words.specs.declared.words.Words.TheVariants as Say
use Rattle.mta_spool.specs.Moments.{AreTimed}
use Rattle.mta_commands.specs.Handed.{ForOpened, ForTables, Handed}
use Rattle.mta_commands.specs.Serving.{RecordsFirst}
use Rattle.mta_commands.specs.Submit.{accepts, AreOwn}
use Rattle.mta_commands.specs.Words.{Serves}

-- the tables that the step records are these
abbrev pub IsTablesOf : (conf : List ℕ) → Class → Type 0
IsTablesOf conf (classes.begins t) = ⊥
IsTablesOf conf classes.sets_format = Unit {0}
IsTablesOf conf (classes.records text) = text ≡ conf
IsTablesOf conf (classes.accepts octets) = Unit {0}
IsTablesOf conf (classes.settles how i r) = Unit {0}
IsTablesOf conf (classes.opens role peer reference twa checkpoint window) = Unit {0}
IsTablesOf conf (classes.on_lane n generation step) = Unit {0}

-- the tables that these steps record are these
abbrev pub AreTablesOf : (conf : List ℕ) → List Step → Type 0
AreTablesOf conf [] = Unit {0}
AreTablesOf conf (step ∷ steps) = IsTablesOf conf (class_of step) × AreTablesOf conf steps

-- the steps before the workers are of the tables of this call, and of what was due; their moments are the clock's
abbrev pub AreOfRun : {D C I : Type 0} → Handed D C I → List Step → Type 0
AreOfRun h steps =
    ForTables h (λ c. RecordsFirst c steps
    × ForOpened h (λ first. AreOwn (h.clocks.tells h.clock) c [] (after first) steps))

-- What is known of the added steps.
pub record AreOfCall {D C I : Type 0} (h : Handed D C I) (added : List Step) : Type 0 where
  -- tables that they record are those of this call
  pub tables : ForTables h (λ c. AreTablesOf c added)
  -- an APDU is accepted by `submit` alone: what peers send comes over lanes
  pub accepted : (h.words ≡ Some Say.Submit → ⊥) → accepts added ≡ 0
  -- each moment that one carries is the greater of the last one before it and one that the clock tells, capped
  pub moments : ForOpened h (λ steps. AreTimed (h.clocks.tells h.clock) (after steps) added)
  -- of `serve` the tables come first, where they changed, and then what is due and what its workers make
  pub in_turn : Serves h.words → ForTables h (λ c. RecordsFirst c added)
