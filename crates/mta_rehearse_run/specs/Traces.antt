-- Walks, and how agents find a loop (X.411, clause 14: loop detection).
use Rattle.std.specs.Prelude.{◌≡◌, ◌↔◌, ℕ, ◌-◌, ◌<◌, true, false, List, length, take, slice_get, slice_index, Some}
use Rattle.mta_fields.specs.declared.trace.TraceFields.{TraceFields}
use Rattle.mta_names.specs.declared.attributes.Attributes.{Attributes}
use Rattle.mta_procedures.specs.Traces.{comes_back}
use Rattle.mta_tables.specs.Tables.{TablesValue}
use Rattle.mta_rehearse_run.specs.declared.turn.Turn.TheVariants.{On}
use Rattle.mta_rehearse_run.specs.declared.walked.Walk.{Walk}
use Rattle.mta_rehearse_run.specs.declared.walked.WalkEnd.TheVariants as Ends
use Rattle.mta_rehearse_run.specs.Agents.{StandsAt, AreApart}
use Rattle.mta_rehearse_run.specs.Turns.{turn_of}
use Rattle.mta_rehearse_run.specs.Walks.{IsWalk}

-- the element that this agent appends as it relays an item (X.411, clause 12): it has its domain, and no dl-operation
pub record IsElementOf (agents : List TablesValue) (a : ℕ) (e : TraceFields) : Type 0 where
  pub tables : TablesValue
  pub there : StandsAt agents a tables
  pub domain : e.domain ≡ tables.domain
  pub no_expansion : e.supplied.dl ≡ false

-- the elements of the agents that relayed it, in turn
pub record IsTraceOf (agents : List TablesValue) (walked : List ℕ) (trace : List TraceFields) : Type 0 where
  pub long : length trace ≡ length walked
  pub each : (k : ℕ) (e : TraceFields) → k < length walked → slice_get trace k ≡ Some e
      → IsElementOf agents (slice_index walked k) e

-- Where each agent of a walk relays an item that was made in the first one's domain, none of them has found it to have
-- looped when it came; and the one to which the last sends it on finds that exactly where the walk ends in a loop
-- there.
pub record MeetsLoops (agents : List TablesValue) (n : Attributes) (w : Walk) (trace : List TraceFields) : Type 0
  where
    pub on_the_way : (k : ℕ) (t : TablesValue) → k < length w.agents
        → StandsAt agents (slice_index w.agents k) t → comes_back t.domain (take k trace) ≡ false
    pub at_the_end : (a : ℕ) (t : TablesValue)
        → turn_of agents n (slice_index w.agents (length w.agents - 1)) ≡ On a → StandsAt agents a t
        → (comes_back t.domain trace ≡ true) ↔ (w.end ≡ Ends.Loop a)

abbrev pub LoopsAreMetInTheTrace : Type 0
LoopsAreMetInTheTrace =
    (agents : List TablesValue) (start : ℕ) (n : Attributes) (w : Walk) (trace : List TraceFields)
    → AreApart agents → IsWalk agents start n w → IsTraceOf agents w.agents trace → MeetsLoops agents n w trace
