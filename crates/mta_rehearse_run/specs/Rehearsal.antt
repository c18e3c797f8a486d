-- What is printed of a walk, or why there is none.
use Rattle.std.specs.Prelude.{◌≡◌, ℕ, List, Option, Some, None, Result, Ok, Err}
use Rattle.mta_edge.specs.Causes.{Rose}
use Rattle.mta_edge.specs.Views.{SourceView}
use Rattle.mta_names.specs.declared.attributes.Attributes.{Attributes}
use Rattle.mta_tables.specs.Tables.{TablesValue}
use Rattle.mta_rehearse_run.specs.declared.asked.Asked.{Asked}
use Rattle.mta_rehearse_run.specs.declared.rehearsal.Rehearsal.{Rehearsal}
use Rattle.mta_rehearse_run.specs.declared.stop.Stop.{Stop}
use Rattle.mta_rehearse_run.specs.declared.stop.Stop.TheVariants as Stops
use Rattle.mta_rehearse_run.specs.declared.walked.Walk.{Walk}
use Rattle.mta_rehearse_run.specs.Agents.{agent_named, AreApart, IsFirstTwice}
use Rattle.mta_rehearse_run.specs.Network.{IsDrawn, AreTablesIn, AreRead}
use Rattle.mta_rehearse_run.specs.Walks.{IsWalk}
use Rattle.mta_rehearse_run.specs.WalkText.{walk_text, status_of}

-- the text and the status of the walk of a name from an agent
pub record Shows (agents : List TablesValue) (start : ℕ) (n : Attributes) (r : Rehearsal) : Type 0 where
  pub walk : Walk
  pub walked : IsWalk agents start n walk
  pub text_is : r.text ≡ walk_text agents walk
  pub status_is : r.status ≡ status_of walk.end

-- and from the agent of the name that is asked for
pub record ShowsAsked (agents : List TablesValue) (a : Asked) (r : Rehearsal) : Type 0 where
  pub apart : AreApart agents
  pub start : ℕ
  pub named : agent_named agents a.agent ≡ Some start
  pub shows : Shows agents start a.name r

-- all agents can be told apart, and none has the name that is asked for
pub record LacksAgent (agents : List TablesValue) (a : Asked) (name : List ℕ) : Type 0 where
  pub apart : AreApart agents
  pub none : agent_named agents a.agent ≡ None
  pub name_is : name ≡ a.agent

-- what is printed of the walk that is asked for, or why there is none
abbrev pub IsRehearsed : List TablesValue → Asked → Result Rehearsal Stop → Type 0
IsRehearsed agents a (Ok r) = ShowsAsked agents a r
IsRehearsed agents a (Err (Stops.Twice number)) = IsFirstTwice agents number
IsRehearsed agents a (Err (Stops.NoAgent name)) = LacksAgent agents a name
IsRehearsed agents a (Err Stops.Memory) = Unit {0}
IsRehearsed agents a (Err other) = ⊥

-- What comes of the words and the texts: the words ask nothing; or the texts were not read; or they were, and then
-- what is asked is shown or not; or memory ran out.
pub data Outcome (told : Option (List ℕ)) (failed : Type 0) (asked : Option Asked) : Result Rehearsal Stop → Type 0
  where
    unasked : asked ≡ None → Outcome told failed asked (Err Stops.Usage)
    unread : (a : Asked) (stop : Stop) → asked ≡ Some a → AreRead told failed (Err stop)
        → Outcome told failed asked (Err stop)
    answered : (a : Asked) (agents : List TablesValue) (result : Result Rehearsal Stop) → asked ≡ Some a
        → AreTablesIn told agents → IsRehearsed agents a result → Outcome told failed asked result
    short : Outcome told failed asked (Err Stops.Memory)

-- what it leaves before anything is printed: a source is not touched where the words ask nothing
pub record HasRehearsed {I : Type 0} (sources : SourceView I) (asked : Option Asked) (old new : I)
    (result : Result Rehearsal Stop) : Type 0 where
  pub drawn : IsDrawn sources old new
  pub untouched : asked ≡ None → new ≡ old
  pub outcome : Outcome (sources.left old) (Rose (sources.faults old) (sources.faults new)) asked result
