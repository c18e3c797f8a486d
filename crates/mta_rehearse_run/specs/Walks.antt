-- The walk of a name from agent to agent.
use Rattle.std.specs.Prelude.{◌≡◌, ◌≢◌, ℕ, ◌+◌, ◌-◌, ◌<◌, List, length, slice_index, Contains}
use Rattle.mta_names.specs.declared.attributes.Attributes.{Attributes}
use Rattle.mta_tables.specs.Tables.{TablesValue}
use Rattle.mta_rehearse_run.specs.declared.turn.Turn.{Turn}
use Rattle.mta_rehearse_run.specs.declared.turn.Turn.TheVariants.{On, Over}
use Rattle.mta_rehearse_run.specs.declared.walked.Walk.{Walk}
use Rattle.mta_rehearse_run.specs.declared.walked.WalkEnd.{WalkEnd}
use Rattle.mta_rehearse_run.specs.declared.walked.WalkEnd.TheVariants as Ends
use Rattle.mta_rehearse_run.specs.Turns.{turn_of}

-- ---- where each agent sends the name is given

abbrev pub BeginsAt : ℕ → List ℕ → Type 0
BeginsAt start agents = (0 < length agents) × (slice_index agents 0 ≡ start)

-- each agent sends the name on to the one behind it
abbrev pub EachGoesOn : (ℕ → Turn) → List ℕ → Type 0
EachGoesOn turn agents =
    (k : ℕ) → k + 1 < length agents → turn (slice_index agents k) ≡ On (slice_index agents (k + 1))

abbrev pub AllDiffer : List ℕ → Type 0
AllDiffer agents = (j k : ℕ) → j < k → k < length agents → slice_index agents j ≢ slice_index agents k

-- agents from the start, each the one to which the one before sends the name on, and all different
pub record IsPath (turn : ℕ → Turn) (start : ℕ) (agents : List ℕ) : Type 0 where
  pub begins : BeginsAt start agents
  pub each_next : EachGoesOn turn agents
  pub differ : AllDiffer agents

-- where a path ends whose last agent does this with the name: there it is over, or it goes back to one of the path
pub data EndsBy (turn : Turn) (agents : List ℕ) (end : WalkEnd) : Type 0 where
  over : turn ≡ Over end → EndsBy turn agents end
  around : (a : ℕ) → turn ≡ On a → Contains agents a → end ≡ Ends.Loop a → EndsBy turn agents end

-- the name goes back to this one of the agents
abbrev pub GoesBack : Turn → List ℕ → ℕ → Type 0
GoesBack turn agents a = (turn ≡ On a) × Contains agents a

-- a path that goes on to no other agent, and where it ends
pub record IsWalkBy (turn : ℕ → Turn) (start : ℕ) (agents : List ℕ) (end : WalkEnd) : Type 0 where
  pub path : IsPath turn start agents
  pub ends : EndsBy (turn (slice_index agents (length agents - 1))) agents end

-- ---- the walk of a name

-- each agent sends it where the best hop of its tables goes
abbrev pub IsWalk : List TablesValue → ℕ → Attributes → Walk → Type 0
IsWalk agents start n w = IsWalkBy (turn_of agents n) start w.agents w.end

-- what becomes of the name behind these agents: the same, but that it is over where it goes back to one of them
abbrev pub Closes : List ℕ → Turn → Turn → Type 0
Closes agents turn (Over end) = EndsBy turn agents end
Closes agents turn (On a) = (turn ≡ On a) × (Contains agents a → ⊥)
