-- The first session of a drill: a new lane is opened and accepted.
use Rattle.std.specs.Prelude.{◌≡◌, ◌≤◌, ℕ, ◌+◌, ◌*◌, false, List, [], ◌∷◌, codes, Option, None, Some}
use Rattle.mta_units.specs.declared.unit.Unit.{Unit as AnyUnit}
use Rattle.mta_units.specs.declared.unit.Unit.TheVariants as unit
use Rattle.mta_units.specs.declared.unit.OpenUnit.{OpenUnit}
use Rattle.mta_rtse.specs.declared.types.Request.TheVariants as request
use Rattle.mta_rtse.specs.declared.types.Answer.TheVariants as answer
use Rattle.mta_lane_send.specs.declared.state.SendState.TheVariants as state
use Rattle.mta_lane_recv.specs.declared.state.Last.TheVariants as last
use Rattle.mta_transfer_rules.specs.Sending as s
use Rattle.mta_transfer_rules.specs.Receiving as r
use Rattle.mta_transfer_rules.specs.Receiving.{RecvEnd}
use Rattle.mta_records.specs.declared.lane.LaneRole.TheVariants.{Responder}
use Rattle.mta_histories.specs.Lanes.{Lane}
use Rattle.mta_histories.specs.Lanes.{State as SpoolState}
use Rattle.mta_session.specs.declared.ask.Ask.TheVariants as ask
use Rattle.mta_session.specs.declared.event.Action.{Action}
use Rattle.mta_session.specs.declared.event.Action.TheVariants as action
use Rattle.mta_session.specs.declared.event.Side.TheVariants as side
use Rattle.mta_session.specs.declared.peer.Peer.{Peer}
use Rattle.mta_session.specs.declared.phase.Phase.{Phase}
use Rattle.mta_session.specs.declared.phase.Phase.TheVariants as phase
use Rattle.mta_session.specs.Session.{new_responder}
use Rattle.mta_session.specs.State.{State}
use Rattle.mta_drill_laws.specs.Tables.{east, gold_1}
use Rattle.mta_drill_step_laws.specs.First.{HasAccepted}
use Rattle.mta_drill_step_laws.specs.Second.{HasGot}
use Rattle.mta_drill_stage_laws.specs.Lines.{line_of_first, plan_on}
use Rattle.mta_drill_stage_laws.specs.Settings.{IsUntouched, Setting, StandsNone, first_lane, half_at}
use Rattle.mta_drill_stage_laws.specs.Stages.{Second, Stage}
use Rattle.mta_drill_stage_laws.specs.World.{World}

-- what the first agent asks, and what it is answered
abbrev pub open_of : Setting → OpenUnit
open_of x = record {
  name = gold_1;
  reference = x.reference;
  checkpoint = 1;
  window = 2;
  twa = false;
  request = request.Bind gold_1 (codes "from-gold");
}

abbrev pub accept : AnyUnit
accept = unit.Accept 1 2 (answer.Bind east (codes "from-east"))

-- the lane is new
pub record IsNew (x : Setting) : Type 0 where
  pub new : x.recovering ≡ false
  pub first : x.generation ≡ 1
  pub opened : x.opened ≡ open_of x

-- ---- sessions

abbrev pub opener : Setting → (left : ℕ) → Phase → State
opener x left p = record {
  phase = p;
  left = left;
  side = side.Initiator (plan_on x.reference x.recovering x.generation);
  opened = None;
  line = None;
  lane = 1;
  generation = x.generation;
  checkpoint = 1;
  window = 2;
  twa = false;
  agreed = false;
  ours = false;
  please = false;
  send = record (half_at (state.Idle 0) [] s.Quiet) { accepted = false };
  recv = record { high = 0; last = last.None; stage = r.Free; from = 0; acked = 0 };
}

abbrev pub responder : (right : ℕ) → Phase → Option OpenUnit → Option Peer → State
responder right p o line = record (new_responder east right) { phase = p; opened = o; line = line }

-- ---- spools

-- the lane is opened and not agreed
abbrev pub new_lane_of : Setting → Lane
new_lane_of x = record (first_lane x (state.Idle 0) None) { agreed = false }

pub record FirstNew (x : Setting) (s : SpoolState) : Type 0 where
  pub lanes : s.lanes.open_lanes ≡ new_lane_of x ∷ []
  pub accepted : HasAccepted x.before x.count 0 s.machine
  pub moment : s.moment ≡ 0

-- no lane was opened yet, and all messages are accepted
pub record FirstFresh (x : Setting) (s : SpoolState) : Type 0 where
  pub lanes : s.lanes.open_lanes ≡ []
  pub count : s.lanes.count ≡ 0
  pub accepted : HasAccepted x.before x.count 0 s.machine
  pub moment : s.moment ≡ 0

-- no lane was opened yet
pub record SecondNew (x : Setting) (s : SpoolState) : Type 0 where
  pub lanes : s.lanes.open_lanes ≡ []
  pub count : s.lanes.count ≡ 0
  pub has : HasGot x.before 0 x.given s.machine
  pub moment : s.moment ≡ 0

-- ---- both sides

-- so many units more than a drill needs may come
pub record Opener (x : Setting) (w : World) (more : ℕ) (wants : Action) (at : Phase) : Type 0 where
  pub left : ℕ
  pub room : 16 * x.count + 16 + more ≤ left
  pub wants_is : w.calling.wants ≡ wants
  pub session_is : w.calling.session ≡ opener x left at
  pub holds : FirstNew x w.calling.spool

pub record Responds (x : Setting) (w : World) (more : ℕ) (wants : Action) (at : Phase) (o : Option OpenUnit)
    (line : Option Peer) (came : List AnyUnit) : Type 0 where
  pub right : ℕ
  pub room : 16 * x.count + 16 + more ≤ right
  pub wants_is : w.listening.wants ≡ wants
  pub session_is : w.listening.session ≡ responder right at o line
  pub came_is : w.listening.came ≡ came
  pub holds : SecondNew x w.listening.spool
  pub up_is : w.calling.came ≡ []
  pub whole_link : w.link.is_broken ≡ false
  pub marks : IsUntouched x 0 w.link.breaks

pub data AtOpen (x : Setting) (w : World) : Type 0 where
  Open_came : Responds x w 1 action.Read phase.ReadsOpen None None (unit.Open (open_of x) ∷ []) → AtOpen x w
  Asks_peer : Responds x w 0 (action.Ask (ask.Peer gold_1)) phase.AsksPeer (Some (open_of x)) None [] → AtOpen x w
  Asks_stands : Responds x w 0 (action.Ask (ask.LaneOf Responder gold_1 (Some x.reference))) phase.AsksStands
      (Some (open_of x)) (Some line_of_first) []
      → AtOpen x w
  Asks_lane : Responds x w 0 (action.Ask (ask.LaneOpen Responder gold_1 x.reference false 1 2))
      (phase.AsksNewLane false) (Some (open_of x)) (Some line_of_first) []
      → AtOpen x w
  Accepts : (f : RecvEnd) → f.stage ≡ r.Free
      → Second x w 0 (StandsNone 0) (IsUntouched x 0) 0 (action.Put accept) phase.PutsAccept f [] []
      → AtOpen x w
  Accepted : (f : RecvEnd) → f.stage ≡ r.Free
      → Second x w 0 (StandsNone 0) (IsUntouched x 0) 0 action.Read phase.Reads f [] (accept ∷ [])
      → AtOpen x w

-- the lane is opened, and then the first message is looked for
pub data Opening (x : Setting) (w : World) : Type 0 where
  Opens : Opener x w 1 (action.Put (unit.Open (open_of x))) phase.PutsOpen
      → Responds x w 1 action.Read phase.ReadsOpen None None []
      → Opening x w
  Has_opened : Opener x w 1 action.Read phase.ReadsAnswer → AtOpen x w → Opening x w
  Agrees : Opener x w 0 (action.Ask (ask.LaneAgree 1 x.generation 1 2)) phase.AsksAgree → (f : RecvEnd)
      → f.stage ≡ r.Free
      → Second x w 0 (StandsNone 0) (IsUntouched x 0) 0 action.Read phase.Reads f [] []
      → Opening x w
  Begins : Stage x w → Opening x w
