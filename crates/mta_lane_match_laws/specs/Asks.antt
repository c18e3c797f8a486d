-- What a session asks for is of the phase that it is in then, and of its lane.
use Rattle.std.specs.Prelude.{◌≡◌, ℕ, List, [], Option, Some}
use Rattle.mta_lane_send.specs.Half.{last_of}
use Rattle.mta_records.specs.declared.lane.LaneRole.TheVariants.{Responder}
use Rattle.mta_units.specs.declared.unit.OpenUnit.{OpenUnit}
use Rattle.mta_session.specs.State.{State, peer_of}
use Rattle.mta_session.specs.Follows.{Follows}
use Rattle.mta_session.specs.Wanted.{ask_of, new_lane}
use Rattle.mta_session.specs.declared.ask.Ask.{Ask}
use Rattle.mta_session.specs.declared.ask.Ask.TheVariants as ask
use Rattle.mta_session.specs.declared.event.Event.{Event}
use Rattle.mta_session.specs.declared.event.Action.TheVariants as action
use Rattle.mta_session.specs.declared.peer.Peer.{Peer}
use Rattle.mta_session.specs.declared.phase.Phase.{Phase}
use Rattle.mta_session.specs.declared.phase.Phase.TheVariants as phase

-- the piece that goes along with the question
abbrev pub handed_by : Ask → List ℕ
handed_by (ask.Secure lane g k n piece) = piece
handed_by (ask.Complete lane g k n piece) = piece
handed_by a = []

-- a lane for what the other end asked, by its line
abbrev pub IsForOpen : Option OpenUnit → Option Peer → Ask → Type 0
IsForOpen (Some o) (Some p) a = a ≡ new_lane o p
IsForOpen _ _ a = ⊥

abbrev pub IsPeer : Ask → Type 0
IsPeer (ask.Peer name) = Unit {0}
IsPeer a = ⊥

-- a responder's lane of some name
abbrev pub IsLaneOf : Ask → Type 0
IsLaneOf (ask.LaneOf role peer (Some reference)) = role ≡ Responder
IsLaneOf a = ⊥

abbrev pub IsCloseLane : Ask → Type 0
IsCloseLane (ask.CloseLane lane generation) = Unit {0}
IsCloseLane a = ⊥

abbrev pub IsStart : State → Ask → Type 0
IsStart t (ask.Start lane generation batch) = (lane ≡ t.lane) × (generation ≡ t.generation)
IsStart t a = ⊥

-- the last step of a session
abbrev pub IsLast : State → Ask → Type 0
IsLast t (ask.CloseLane lane generation) = (lane ≡ t.lane) × (generation ≡ t.generation)
IsLast t (ask.Denied lane generation k) =
    (lane ≡ t.lane) × (generation ≡ t.generation) × (k ≡ last_of t.send.state)
IsLast t (ask.Sent lane generation k) = (lane ≡ t.lane) × (generation ≡ t.generation)
    × (k ≡ last_of t.send.state)
IsLast t a = ⊥

-- Each step is asked for on the session's lane and generation, and so is each look. A responder that has no lane yet
-- looks for one, opens one, or closes another for room.
abbrev pub IsAskOf : Phase → State → Ask → Type 0
IsAskOf phase.AsksPeer t a = IsPeer a
IsAskOf phase.AsksStands t a = IsLaneOf a
IsAskOf (phase.AsksNewLane again) t a = IsForOpen t.opened t.line a
IsAskOf phase.AsksSpare t a = a ≡ ask.SpareLane Responder (peer_of t.side t.opened)
IsAskOf phase.AsksRoom t a = IsCloseLane a
IsAskOf phase.AsksOldLane t a = IsLaneOf a
IsAskOf phase.AsksBind t a = a ≡ ask.Bind t.lane
IsAskOf phase.AsksValues t a = a ≡ ask.Values t.lane
IsAskOf phase.AsksRecovery t a = a ≡ ask.Recovery t.lane
IsAskOf (phase.AsksReceiving state) t a = a ≡ ask.Receiving t.lane
IsAskOf (phase.AsksResumed state) t a = a ≡ ask.Resumed t.lane
IsAskOf phase.AsksAgree t a = a ≡ ask.LaneAgree t.lane t.generation t.checkpoint t.window
IsAskOf phase.AsksDenied t a = a ≡ ask.Denied t.lane t.generation (last_of t.send.state)
IsAskOf phase.AsksDue t a = a ≡ ask.BatchFor (peer_of t.side t.opened)
IsAskOf phase.AsksBatch t a = a ≡ ask.BatchFor (peer_of t.side t.opened)
IsAskOf phase.AsksStart t a = IsStart t a
IsAskOf phase.AsksStillIdle t a = a ≡ ask.Recovery t.lane
IsAskOf (phase.AsksStep step) t a = a ≡ ask_of t step
IsAskOf phase.AsksState t a = a ≡ ask.Recovery t.lane
IsAskOf (phase.AsksSecure k n) t a = a ≡ ask.Secure t.lane t.generation k n (handed_by a)
IsAskOf (phase.AsksComplete k n) t a = a ≡ ask.Complete t.lane t.generation k n (handed_by a)
IsAskOf (phase.AsksDrop k found) t a = a ≡ ask.DropActivity t.lane t.generation k
IsAskOf phase.AsksClose t a = a ≡ ask.CloseLane t.lane t.generation
IsAskOf (phase.AsksLast end) t a = IsLast t a
IsAskOf _ t a = ⊥

-- So a reply that answers the question is one to the phase (`IsReplyOf`).
abbrev pub AsksAreOfPhase : Type 0
AsksAreOfPhase = (t : State) (e : Event) (a : Ask) (new : State) → Follows t e (action.Ask a) new
    → IsAskOf new.phase new a
