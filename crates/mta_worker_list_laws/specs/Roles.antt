-- Who opened the lane that a session has: this agent or its peer.
use Rattle.std.specs.Prelude.{◌≡◌, ℕ, List, [], ◌∷◌, ◌++◌, Ok, Some}
use Rattle.mta_records.specs.declared.lane.LaneRole.{LaneRole}
use Rattle.mta_records.specs.declared.lane.LaneRole.TheVariants.{Initiator, Responder}
use Rattle.mta_records.specs.declared.step.Step.{Step}
use Rattle.mta_histories.specs.History.{after}
use Rattle.mta_histories.specs.Lanes.{Lane, State, lane_at}
use Rattle.mta_session.specs.declared.ask.Ask.{Ask}
use Rattle.mta_session.specs.declared.ask.Ask.TheVariants as ask
use Rattle.mta_session.specs.declared.ask.Reply.{Reply}
use Rattle.mta_session.specs.declared.ask.Reply.TheVariants as reply
use Rattle.mta_session_list_laws.specs.Calls.{Call, StepOn}
use Rattle.mta_session_list_laws.specs.Lists.{step_by}

-- the lane is open, in this role
pub record IsOpenAs (role : LaneRole) (lane : ℕ) (s : State) : Type 0 where
  pub now : Lane
  pub now_is : lane_at lane s.lanes.open_lanes ≡ Some now
  pub role_is : now.role ≡ role

-- at some length of the history it was so
pub record WasOpenAs (role : LaneRole) (lane : ℕ) (steps : List Step) : Type 0 where
  pub before : List Step
  pub behind : List Step
  pub parts : before ++ behind ≡ steps
  pub opened : IsOpenAs role lane (after before)

-- the lane is open, as one that this agent opened to this peer
pub record IsOpenTo (peer : List ℕ) (lane : ℕ) (s : State) : Type 0 where
  pub now : Lane
  pub now_is : lane_at lane s.lanes.open_lanes ≡ Some now
  pub role_is : now.role ≡ Initiator
  pub peer_is : now.peer ≡ peer

-- at some length of the history it was so
pub record WasOpenTo (peer : List ℕ) (lane : ℕ) (steps : List Step) : Type 0 where
  pub before : List Step
  pub behind : List Step
  pub parts : before ++ behind ≡ steps
  pub opened : IsOpenTo peer lane (after before)

-- where the reply says that a lane was opened or bound, this holds of that lane
abbrev pub WhereBegun : (P : ℕ → Type 0) → Ask → Reply → Type 0
WhereBegun P (ask.LaneOpen role peer name twa checkpoint window) (reply.LaneOpen (Ok lane)) = P lane
WhereBegun P (ask.Bind lane) (reply.Bind (Ok generation)) = P lane
WhereBegun P q x = Unit {0}

-- where one of these calls tells a responder that it has a lane, its peer opened that lane
abbrev pub AreGiven : (steps : List Step) → List Call → Type 0
AreGiven steps [] = Unit {0}
AreGiven steps (c ∷ cs) =
    ((x : StepOn) → step_by c.turn.before.phase c.turn.event c.turn.after ≡ Some x
    → WasOpenAs Responder c.turn.after.lane steps)
    × AreGiven steps cs
