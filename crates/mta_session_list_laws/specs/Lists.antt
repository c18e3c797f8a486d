-- The list of a session that has a lane.
use Rattle.std.specs.Prelude.{◌≡◌, ℕ, ◌+◌, ◌*◌, not, Bool, true, false, Option, Some, None, Ok, if◌then◌else◌}
use Rattle.std.specs.Prelude.{slice_get, List, [], ◌∷◌, ◌++◌, take}
use Rattle.mta_transfer_rules.specs.Sending.{SendEnd}
use Rattle.mta_transfer_rules.specs.Lanes as h
use Rattle.mta_transfer_rules.specs.Lanes.{Seen, On, lane_in}
use Rattle.mta_session.specs.declared.ask.Reply.TheVariants as reply
use Rattle.mta_session.specs.declared.event.Event.{Event}
use Rattle.mta_session.specs.declared.event.Event.TheVariants as event
use Rattle.mta_session.specs.declared.event.Action.TheVariants as action
use Rattle.mta_session.specs.declared.event.InitiatorPlan.{InitiatorPlan}
use Rattle.mta_session.specs.declared.phase.Phase.{Phase}
use Rattle.mta_session.specs.declared.phase.Phase.TheVariants as phase
use Rattle.mta_session.specs.State.{State}
use Rattle.mta_session.specs.Session.{new_initiator, new_responder}
use Rattle.mta_transfer_laws.specs.Sendings.{end_on_link}
use Rattle.mta_transfer_laws.specs.Sessions.{SessionList}
use Rattle.mta_session_list_laws.specs.Calls.{Call, StepOn, on, list_of}
use Rattle.mta_session_list_laws.specs.Abandons.{with_abandons}
use Rattle.mta_session_list_laws.specs.Standing.{AllComeTrue}

-- ---- where a list begins

-- the step stands at this position
abbrev pub HasAt : List Seen → (position : ℕ) → StepOn → Type 0
HasAt history p x = slice_get history p ≡ Some (On x.lane x.step)

-- the step that was made for an initiator's session, in the turn of the lock before its first call
abbrev pub step_for : InitiatorPlan → StepOn
step_for p = record {
  lane = p.lane;
  step = if p.recovering then h.Bind p.generation else h.LaneOpen false (1024 * p.checkpoint) p.window;
}

-- the step that gave a responder's session its lane, where the reply says so and leaves the session here
abbrev pub step_by : Phase → Event → State → Option StepOn
step_by (phase.AsksNewLane again) (event.Reply (reply.LaneOpen (Ok lane))) t =
    on t.lane (h.LaneOpen true (1024 * t.checkpoint) t.window)
step_by phase.AsksBind (event.Reply (reply.Bind (Ok generation))) t = on t.lane (h.Bind generation)
step_by p e t = None

-- The list of a session with these calls from its first state on, where the history has what they tell; without the
-- Abandons of other passes. An initiator's lane was opened or bound before its first call. A responder has its lane
-- from the call on whose reply says so, and what it did before is the opening.
pub data IsListOf (spells : List ℕ → Bool) (history : List Seen) : State → List Call → (lane : ℕ)
    → SessionList
    → Type 0 where
  Initiates :
      (p : InitiatorPlan) (units at : ℕ) (calls : List Call) → HasAt history at (step_for p)
      → AllComeTrue spells history (at + 1) action.Read calls
      → IsListOf spells history (new_initiator p units) calls p.lane
      (record { opening = []; at = at; events = list_of action.Read calls })
  Responds :
      (own : List ℕ) (units at : ℕ) (before calls : List Call) (c : Call) (x : StepOn)
      → step_by c.turn.before.phase c.turn.event c.turn.after ≡ Some x → c.seen ≡ at + 1 → HasAt history at x
      → AllComeTrue spells history (at + 1) c.turn.action calls
      → IsListOf spells history (new_responder own units) (before ++ c ∷ calls) c.turn.after.lane
      (record { opening = list_of action.Read before; at = at; events = list_of c.turn.action calls })

-- ---- with Abandons

-- the sending end at the begin of a list
abbrev pub end_begun : List Seen → (lane size window at : ℕ) → (initiator : Bool) → SendEnd
end_begun history lane size window at initiator =
    end_on_link (lane_in lane (take (at + 1) history)) size window (not initiator)

abbrev pub completed : List Seen → (lane size window : ℕ) → (initiator : Bool) → SessionList → SessionList
completed history lane size window initiator l = record {
  opening = l.opening;
  at = l.at;
  events = with_abandons history lane (l.at + 1) (end_begun history lane size window l.at initiator) l.events;
}

-- the values are the lane's, where it is agreed
abbrev pub AreValues : List Seen → (lane size window : ℕ) → Type 0
AreValues history lane size window =
    (lane_in lane history).agreed ≡ true
    → ((lane_in lane history).size ≡ size) × ((lane_in lane history).window ≡ window)
