-- How both agents begin a session.
use Rattle.std.specs.Prelude.{◌≡◌, ℕ, Bool, true, false, List, [], ◌∷◌, Ok}
use Rattle.mta_records.specs.Reference.{Identifier}
use Rattle.mta_records.specs.declared.lane.LaneRole.TheVariants.{Initiator}
use Rattle.mta_histories.specs.Lanes.{Lane}
use Rattle.mta_histories.specs.Lanes.{State as SpoolState}
use Rattle.mta_session.specs.declared.ask.Ask.{Ask}
use Rattle.mta_session.specs.declared.ask.Ask.TheVariants as ask
use Rattle.mta_session.specs.declared.ask.Reply.{Reply}
use Rattle.mta_session.specs.declared.ask.Reply.TheVariants as reply
use Rattle.mta_session.specs.declared.event.Action.{Action}
use Rattle.mta_session.specs.declared.event.Action.TheVariants as action
use Rattle.mta_session.specs.declared.event.Event.TheVariants as event
use Rattle.mta_session.specs.declared.event.InitiatorPlan.{InitiatorPlan}
use Rattle.mta_session.specs.Follows.{Follows}
use Rattle.mta_session.specs.Session.{new_initiator, new_responder}
use Rattle.mta_session.specs.State.{State}
use Rattle.mta_drill_laws.specs.Tables.{east}
use Rattle.mta_drill_stage_laws.specs.Lines.{plan_on}
use Rattle.mta_drill_stage_laws.specs.World.{Asked, Party}

-- so many units may come in a session
abbrev pub units : ℕ
units = 1048576

-- ---- looks at a lane

abbrev pub is_look : Ask → Bool
is_look (ask.Values n) = true
is_look (ask.Recovery n) = true
is_look (ask.Receiving n) = true
is_look (ask.Resumed n) = true
is_look _ = false

-- what is wanted is no look
abbrev pub WantsNoLook : Action → Type 0
WantsNoLook a = (q : Ask) → a ≡ action.Ask q → is_look q ≡ true → ⊥

-- one look: what was asked and answered, and what the session is and wants then
pub record Look : Type 0 where
  pub question : Ask
  pub answer : Reply
  pub wants : Action
  pub session : State

-- Looks, one behind the other, from this session and what it wants to that one. Each is answered by the spool, which
-- stays.
abbrev pub Looks : SpoolState → State → Action → List Look → State → Action → Type 0
Looks s t a [] u b = (u ≡ t) × (b ≡ a)
Looks s t a (x ∷ xs) u b =
    (a ≡ action.Ask x.question) × (is_look x.question ≡ true) × Asked x.question s x.answer s
    × Follows t (event.Reply x.answer) x.wants x.session × Looks s x.session x.wants xs u b

-- a session that began with this plan, its first call, and looks behind it
pub record HasLooked (s : SpoolState) (plan : InitiatorPlan) (t : State) (a : Action) : Type 0 where
  pub first : Action
  pub session : State
  pub follows : Follows (new_initiator plan units) event.Go first session
  pub looks : List Look
  pub looked : Looks s session first looks t a

-- ---- the first agent

-- what is proposed on the lane of this number
abbrev pub plan_at : (number : ℕ) → Identifier → (recovering : Bool) → (generation : ℕ) → InitiatorPlan
plan_at number reference recovering generation = record (plan_on reference recovering generation) { lane = number }

-- Where no lane is open it opened one of this reference, and else it bound the lane; then the session looked at it.
pub data HasBegun (reference : Identifier) (s : SpoolState) (p : Party) : Type 0 where
  On_new : (number : ℕ) → s.lanes.open_lanes ≡ []
      → Asked (ask.LaneOpen Initiator east reference false 1 2) s (reply.LaneOpen (Ok number)) p.spool
      → HasLooked p.spool (plan_at number reference false 1) p.session p.wants → HasBegun reference s p
  On_old : (lane : Lane) (generation : ℕ) → s.lanes.open_lanes ≡ lane ∷ []
      → Asked (ask.Bind lane.number) s (reply.Bind (Ok generation)) p.spool
      → HasLooked p.spool (plan_at lane.number lane.reference true generation) p.session p.wants
      → HasBegun reference s p

-- and all looks are done
pub record Calls (reference : Identifier) (s : SpoolState) (p : Party) : Type 0 where
  pub begun : HasBegun reference s p
  pub all : WantsNoLook p.wants
  pub came_is : p.came ≡ []

-- ---- the second agent

pub record Listens (s : SpoolState) (p : Party) : Type 0 where
  pub spool_is : p.spool ≡ s
  pub follows : Follows (new_responder east units) event.Go p.wants p.session
  pub came_is : p.came ≡ []
