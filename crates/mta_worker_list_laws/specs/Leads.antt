-- What a worker did for a session, as calls of it.
use Rattle.std.specs.Prelude.{◌≡◌, ℕ, ◌-◌, Bool, Option, None, Some, List, [], ◌∷◌, ◌++◌}
use Rattle.mta_links.specs.Links.{LinkView, Talk}
use Rattle.mta_links.specs.Links as link
use Rattle.mta_units.specs.Feed.{Feed}
use Rattle.mta_units.specs.declared.unit.Unit.{Unit as AnyUnit}
use Rattle.mta_session_run.specs.Carried.{Carried}
use Rattle.mta_transfer_rules.specs.Lanes.{Seen}
use Rattle.mta_session.specs.State.{State}
use Rattle.mta_session.specs.declared.event.Action.{Action}
use Rattle.mta_session.specs.declared.event.Action.TheVariants as action
use Rattle.mta_session.specs.declared.event.Event.{Event}
use Rattle.mta_session.specs.declared.event.Event.TheVariants as event
use Rattle.mta_session_laws.specs.Whole.{AreCalls}
use Rattle.mta_session_run.specs.Running.{PutFor, units_of}
use Rattle.mta_session_list_laws.specs.Calls.{Call, StepOn, turns_of, action_of, step_told}
use Rattle.mta_session_list_laws.specs.Over.{seen_of}
use Rattle.mta_session_list_laws.specs.Standing.{AllComeTrue}

-- These calls lead a session from one thing that it wants to another, and the history has what they tell: it had one
-- length before them, and has another behind them.
pub record Leads (spells : List ℕ → Bool) (history : List Seen) (from : ℕ) (t : State) (a : Action)
    (calls : List Call) (upto : ℕ) (u : State) (b : Action) : Type 0 where
  pub calls_are : AreCalls t (turns_of calls) u
  pub come_true : AllComeTrue spells history from a calls
  pub wanted : action_of a calls ≡ b
  pub seen : seen_of from calls ≡ upto

-- ---- the entries that were made

-- which entry a step is that was the last one at this length of the history, of which so much was there before
abbrev pub entry_at : (before seen : ℕ) → Option StepOn → List ℕ
entry_at n seen (Some x) = (seen - 1 - n) ∷ []
entry_at n seen None = []

abbrev pub made_by : (before seen : ℕ) → Action → Event → List ℕ
made_by n seen (action.Ask q) (event.Reply x) = entry_at n seen (step_told q x)
made_by n seen a e = []

-- the entries that these calls tell, in their order
abbrev pub made_in : (before : ℕ) → Action → List Call → List ℕ
made_in n a [] = []
made_in n a (c ∷ cs) = made_by n c.seen a c.turn.event ++ made_in n c.turn.action cs

-- ---- what went over the link

-- the units that were got in these calls
abbrev pub got_in : List Call → List AnyUnit
got_in [] = []
got_in (c ∷ cs) = units_of c.turn.event ++ got_in cs

-- the octets that were put for an action
abbrev pub PutBy : Action → Event → List ℕ → Type 0
PutBy (action.Put u) e octets = PutFor (action.Put u) e octets
PutBy a e octets = octets ≡ []

abbrev pub PutIn : Action → List Call → List ℕ → Type 0
PutIn a [] octets = octets ≡ []
PutIn a (c ∷ cs) octets =
    (piece : List ℕ) × (rest : List ℕ) × PutBy a c.turn.event piece × PutIn c.turn.action cs rest
    × (octets ≡ piece ++ rest)

-- The link gave the units that were got, and took the octets that were put, behind what went over it before.
pub record AreCarried {L : Type 0} (links : LinkView L) (a : Action) (calls : List Call) (old : L) (fed : Feed)
    (new : L)
    (feed : Feed) : Type 0 where
  pub octets : List ℕ
  pub put : PutIn a calls octets
  pub carried : (since : Option Talk) (us : List AnyUnit) (os : List ℕ)
      → link.Leads (Carried us os fed) since (links.talk old)
      → link.Leads (Carried (us ++ got_in calls) (os ++ octets) feed) since (links.talk new)
