-- A name has one walk from each agent.
use Rattle.std.specs.Prelude.{◌≡◌, ℕ, ◌<◌, ◌≤◌, List, length}
use Rattle.mta_names.specs.declared.attributes.Attributes.{Attributes}
use Rattle.mta_tables.specs.Tables.{TablesValue}
use Rattle.mta_rehearse_run.specs.declared.walked.Walk.{Walk}
use Rattle.mta_rehearse_run.specs.Walks.{IsWalk}

pub record HasOneWalk (agents : List TablesValue) (start : ℕ) (n : Attributes) : Type 0 where
  pub walk : Walk
  pub walked : IsWalk agents start n walk
  pub one : (w : Walk) → IsWalk agents start n w → w ≡ walk
  pub few : length walk.agents ≤ length agents

abbrev pub WalksAreOne : Type 0
WalksAreOne =
    (agents : List TablesValue) (start : ℕ) (n : Attributes) → start < length agents → HasOneWalk agents start n
