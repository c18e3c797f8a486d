-- A later session of a drill: the lane that is open is recovered at both agents and accepted.
use Rattle.std.specs.Prelude.{◌≡◌, ◌<◌, ◌≤◌, ℕ, ◌+◌, ◌*◌, Bool, true, false, List, [], ◌∷◌, Option, None, Some}
use Rattle.mta_units.specs.declared.unit.Unit.{Unit as AnyUnit}
use Rattle.mta_units.specs.declared.unit.Unit.TheVariants as unit
use Rattle.mta_units.specs.declared.unit.OpenUnit.{OpenUnit}
use Rattle.mta_rtse.specs.declared.types.Request.TheVariants as request
use Rattle.mta_rtse.specs.declared.types.Answer.TheVariants as answer
use Rattle.mta_lane_send.specs.declared.state.SendState.{SendState}
use Rattle.mta_lane_send.specs.declared.state.SendState.TheVariants as state
use Rattle.mta_lane_recv.specs.declared.state.Last.{Last}
use Rattle.mta_lane_recv.specs.declared.state.Last.TheVariants as last
use Rattle.mta_transfer_rules.specs.Sending as s
use Rattle.mta_transfer_rules.specs.Sending.{SendEnd, SendStage}
use Rattle.mta_transfer_rules.specs.Receiving as r
use Rattle.mta_transfer_rules.specs.Receiving.{RecvEnd}
use Rattle.mta_records.specs.declared.lane.LaneRole.TheVariants.{Responder}
use Rattle.mta_histories.specs.Lanes.{Transfer}
use Rattle.mta_session.specs.declared.ask.Ask.TheVariants as ask
use Rattle.mta_session.specs.declared.event.Action.{Action}
use Rattle.mta_session.specs.declared.event.Action.TheVariants as action
use Rattle.mta_session.specs.declared.phase.Phase.{Phase}
use Rattle.mta_session.specs.declared.phase.Phase.TheVariants as phase
use Rattle.mta_session.specs.State.{State}
use Rattle.mta_drill_laws.specs.Tables.{gold_1}
use Rattle.mta_drill_stage_laws.specs.Breaks.{Breaks}
use Rattle.mta_drill_stage_laws.specs.Lines.{line_of_first}
use Rattle.mta_drill_stage_laws.specs.Opening.{responder}
use Rattle.mta_drill_stage_laws.specs.Settings.{FirstHolds, HasMore, IsUntouched, SecondHolds, Setting, Stands}
use Rattle.mta_drill_stage_laws.specs.Settings.{StandsNone, Transfers, WasBroken, caller, half_at, octets_behind}
use Rattle.mta_drill_stage_laws.specs.Settings.{listener, under_way}
use Rattle.mta_drill_stage_laws.specs.Stages.{Second, Stage}
use Rattle.mta_drill_stage_laws.specs.World.{World}

-- what the first agent asks, and what it is answered
abbrev pub again_of : Setting → OpenUnit
again_of x = record {
  name = gold_1;
  reference = x.reference;
  checkpoint = 1;
  window = 2;
  twa = false;
  request = request.Recover x.reference;
}

abbrev pub accept_again : Setting → AnyUnit
accept_again x = unit.Accept 1 2 (answer.Recover x.reference)

-- the lane that stands so is recovered: a generation more
abbrev pub again : Setting → Setting
again x = record x { generation = x.generation + 1; recovering = true; opened = again_of x }

-- ---- what is under way

-- nothing of the message behind those that are done, or so many pieces of it are confirmed; it may be complete
pub data UnderWay : Type 0 where
  Nothing : UnderWay
  Message : (c : ℕ) (whole : Bool) (transfer : Transfer) → UnderWay

abbrev pub state_of : (done : ℕ) → UnderWay → SendState
state_of done Nothing = state.Idle done
state_of done (Message c whole transfer) = under_way whole (done + 1) c

abbrev pub transfer_in : UnderWay → Option Transfer
transfer_in Nothing = None
transfer_in (Message c whole transfer) = Some transfer

abbrev pub octets_in : Setting → (done : ℕ) → UnderWay → List ℕ
octets_in x done Nothing = []
octets_in x done (Message c whole transfer) = octets_behind x done

abbrev pub stage_in : UnderWay → SendStage
stage_in Nothing = s.Quiet
stage_in (Message c whole transfer) = s.Opened

-- what stands of it at the second agent, and where the link was broken
abbrev pub StandsIn : Setting → (done : ℕ) → UnderWay → (got high : ℕ) → Last → List (List ℕ) → Type 0
StandsIn x done Nothing got high l pieces = StandsNone done got high l pieces
StandsIn x done (Message c whole transfer) got high l pieces =
    Stands whole done (octets_behind x done) c got high l pieces

abbrev pub BearsIn : Setting → (done : ℕ) → UnderWay → Breaks → Type 0
BearsIn x done Nothing b = IsUntouched x done b
BearsIn x done (Message c whole transfer) b = WasBroken x done b

-- the message is one of the drill
abbrev pub IsIn : Setting → (done : ℕ) → UnderWay → Type 0
IsIn x done Nothing = done ≤ x.count
IsIn x done (Message c whole transfer) =
    (done < x.count) × Transfers x done transfer × HasMore (octets_behind x done) c × (c ≡ 0 → whole ≡ true)

-- ---- sessions

-- the sending half as the lane has it, which puts nothing yet
abbrev pub waiting : Setting → (done : ℕ) → UnderWay → SendEnd
waiting x done u = record (half_at (state_of done u) (octets_in x done u) (stage_in u)) { accepted = false }

abbrev pub reopener : Setting → (left : ℕ) → Phase → SendEnd → State
reopener x left p e = record (caller (again x) left p e) { ours = false }

-- the second agent, once it knows the lane, and once that is bound
abbrev pub binder : Setting → (right : ℕ) → State
binder x right = record (responder right phase.AsksBind (Some (again_of x)) (Some line_of_first)) { lane = 1 }

abbrev pub valuer : Setting → (right : ℕ) → State
valuer x right = record (binder x right) { phase = phase.AsksValues; generation = x.generation + 1 }

-- nothing is known of its half
abbrev pub blank : RecvEnd
blank = record { high = 0; last = last.None; stage = r.Free; from = 0; acked = 0 }

-- ---- both sides

-- so many units more than a drill needs may come
pub record Reopens (x : Setting) (w : World) (done : ℕ) (u : UnderWay) (more : ℕ) (wants : Action) (at : Phase)
    : Type 0 where
  pub is : IsIn (again x) done u
  pub left : ℕ
  pub room : 16 * x.count + 17 + more ≤ left
  pub wants_is : w.calling.wants ≡ wants
  pub session_is : w.calling.session ≡ reopener x left at (waiting x done u)
  pub holds : FirstHolds (again x) w.calling.spool done (state_of done u) (transfer_in u)

-- The second agent is in this session, and its lane stands so: as it was, or bound.
pub record Responding (x y : Setting) (w : World) (done : ℕ) (u : UnderWay) (more : ℕ) (wants : Action)
    (at : (right : ℕ) → State) (came : List AnyUnit) : Type 0 where
  pub right : ℕ
  pub room : 16 * x.count + 16 + more ≤ right
  pub wants_is : w.listening.wants ≡ wants
  pub session_is : w.listening.session ≡ at right
  pub came_is : w.listening.came ≡ came
  pub got : ℕ
  pub high : ℕ
  pub latest : Last
  pub pieces : List (List ℕ)
  pub holds : SecondHolds y w.listening.spool got high latest pieces
  pub stands : StandsIn (again x) done u got high latest pieces
  pub up_is : w.calling.came ≡ []
  pub whole_link : w.link.is_broken ≡ false
  pub marks : BearsIn (again x) done u w.link.breaks

-- it is bound, and what it holds of the message is this
abbrev pub OnLane : Setting → World → (done : ℕ) → UnderWay → Action → Phase → RecvEnd
    → (up : List AnyUnit) → Type 0
OnLane x w done u wants at f up =
    Second (again x) w done (StandsIn (again x) done u) (BearsIn (again x) done u) 0 wants at f [] up

pub data AtReopen (x : Setting) (w : World) (done : ℕ) (u : UnderWay) : Type 0 where
  Open_came : Responding x x w done u 1 action.Read (λ n. responder n phase.ReadsOpen None None)
      (unit.Open (again_of x) ∷ [])
      → AtReopen x w done u
  Asks_peer : Responding x x w done u 0 (action.Ask (ask.Peer gold_1))
      (λ n. responder n phase.AsksPeer (Some (again_of x)) None) []
      → AtReopen x w done u
  Asks_lane : Responding x x w done u 0 (action.Ask (ask.LaneOf Responder gold_1 (Some x.reference)))
      (λ n. responder n phase.AsksOldLane (Some (again_of x)) (Some line_of_first)) []
      → AtReopen x w done u
  Asks_bind : Responding x x w done u 0 (action.Ask (ask.Bind 1)) (binder x) [] → AtReopen x w done u
  Asks_values : Responding x (again x) w done u 0 (action.Ask (ask.Values 1)) (valuer x) [] → AtReopen x w done u
  Asks_sending : Responding x (again x) w done u 0 (action.Ask (ask.Recovery 1))
      (λ n. listener (again x) n phase.AsksRecovery blank) []
      → AtReopen x w done u
  Asks_received : Responding x (again x) w done u 0 (action.Ask (ask.Receiving 1))
      (λ n. listener (again x) n (phase.AsksReceiving (state.Idle 0)) blank) []
      → AtReopen x w done u
  Accepts : (f : RecvEnd) → f.stage ≡ r.Free
      → OnLane x w done u (action.Put (accept_again x)) phase.PutsAccept f [] → AtReopen x w done u
  Accepted : (f : RecvEnd) → f.stage ≡ r.Free
      → OnLane x w done u action.Read phase.Reads f (accept_again x ∷ []) → AtReopen x w done u

-- The lane is recovered. Then the next message is looked for, or the one that was under way is gone on with.
pub data Recovering (x : Setting) (w : World) : Type 0 where
  Opens : (done : ℕ) (u : UnderWay) → Reopens x w done u 1 (action.Put (unit.Open (again_of x))) phase.PutsOpen
      → Responding x x w done u 1 action.Read (λ n. responder n phase.ReadsOpen None None) []
      → Recovering x w
  Has_opened : (done : ℕ) (u : UnderWay) → Reopens x w done u 1 action.Read phase.ReadsAnswer
      → AtReopen x w done u → Recovering x w
  Begins : Stage (again x) w → Recovering x w
