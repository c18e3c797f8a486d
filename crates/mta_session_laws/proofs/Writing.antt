-- What a session puts may be written: first what an event calls for, by phase, and then what is done for it.
use Rattle.std.proofs.Common.{◌≡◌, ℕ, ◌&&◌, not, nat_lt, if◌then◌else◌, Bool, true, false, Option, Some, None, Result}
use Rattle.std.proofs.Common.{Ok, Err, [], refl, arith}
use Rattle.std.specs.Str.{bytes_eq}
use Rattle.mta_ber.specs.declared.memory.Memory.{Memory as NoMemory}
use Rattle.mta_ber.specs.declared.fault.Kind.{Kind}
use Rattle.mta_ber.specs.declared.fault.Kind.TheVariants as kind
use Rattle.mta_lane_send.specs.Half.{is_idle}
use Rattle.mta_rtse.specs.declared.types.Request.{Request}
use Rattle.mta_rtse.specs.declared.types.Request.TheVariants as request
use Rattle.mta_units.specs.declared.unit.Unit.TheVariants as unit
use Rattle.mta_units.specs.declared.unit.OpenUnit.{OpenUnit}
use Rattle.mta_units.specs.Canon.{IsWritable}
use Rattle.mta_records.specs.declared.fault.StepFault.{StepFault}
use Rattle.mta_records.specs.declared.fault.StepFault.TheVariants as fault
use Rattle.mta_records.specs.declared.fault.CompleteFault.TheVariants as piece
use Rattle.mta_session.specs.declared.ask.Reply.{Reply}
use Rattle.mta_session.specs.declared.ask.Reply.TheVariants as reply
use Rattle.mta_session.specs.declared.event.Event.{Event}
use Rattle.mta_session.specs.declared.event.Event.TheVariants as event
use Rattle.mta_session.specs.declared.event.Side.{Side}
use Rattle.mta_session.specs.declared.event.Side.TheVariants as side
use Rattle.mta_session.specs.declared.event.InitiatorPlan.{InitiatorPlan}
use Rattle.mta_session.specs.declared.peer.Peer.{Peer}
use Rattle.mta_session.specs.declared.phase.Phase.{Phase}
use Rattle.mta_session.specs.declared.phase.Phase.TheVariants as phase
use Rattle.mta_session.specs.declared.phase.OwnStep.{OwnStep}
use Rattle.mta_session.specs.declared.phase.OwnStep.TheVariants as own
use Rattle.mta_session.specs.State.{State, in_phase, is_initiator}
use Rattle.mta_session.specs.Wanted.{Wanted, Aborts, Rejects, Ends, Puts, Asks, Reads, Goes_on, Excepts, Never}
use Rattle.mta_session.specs.Wanted.{wanted_of_reply, opens, on_request, on_peer, asks_lane, on_stands, answer_for}
use Rattle.mta_session.specs.Wanted.{puts_accept, accepts, with_lane, restored, with_received, on_new_lane, on_room}
use Rattle.mta_session.specs.Wanted.{answers_link, on_step, closed, is_still, is_given_up, kind_octet}
use Rattle.mta_session.specs.Fits.{Fits}
use Rattle.mta_session_laws.specs.Writing.{CanOpen, SideWrites, CallWrites, PhaseWrites, is_silent, CanWrite}
use Rattle.mta_session_laws.specs.Writing.{TellsWritable}

-- this end and the call that it answers
abbrev pub Ends_write : State → Type 0
Ends_write v = SideWrites v.side × CallWrites v.side v.opened v.line

-- what this leads to may be written
abbrev pub Writes : Wanted → Type 0
Writes (Aborts reason) = Unit {0}
Writes (Rejects reason) = Unit {0}
Writes (Ends x) = Unit {0}
Writes (Puts x v) = (Fits v → IsWritable x) × CanWrite v
Writes (Asks x v) = CanWrite v
Writes (Reads v) = CanWrite v
Writes (Goes_on v) = Ends_write v
Writes (Excepts v f) = Ends_write v × IsWritable (unit.Exception f.kind f.at)
Writes Never = Unit {0}

pub writes_if : (b : Bool) (w v : Wanted) → Writes w → Writes v → Writes (if b then w else v)
writes_if true w v p q = p
writes_if false w v p q = q

-- a state of the same ends
pub stays : (v : State) → Ends_write v → PhaseWrites v.phase → CanWrite v
stays v a f = record { side = a.0; call = λ n. a.1; found = f }

lane_writes : (t v : State) (o : Option OpenUnit) (p : Option Peer) (again : Bool) → Ends_write v
    → Writes (asks_lane v o p again)
lane_writes t v (Some o) (Some p) again a = stays _ a tt
lane_writes t v (Some o) None again a = tt
lane_writes t v None p again a = tt

call_of : (t : State) (e : Event) (x : Side) (o : Option OpenUnit) (p : Peer) → t.side ≡ x → t.opened ≡ o
    → e ≡ event.Reply (reply.Peer (Ok (Some p))) → TellsWritable t e → CallWrites x o (Some p)
call_of t e (side.Initiator q) o p a b c d = tt
call_of t e (side.Responder own) (Some o) p a b c d = d own o p a b c
call_of t e (side.Responder own) None p a b c d = tt

request_writes : (t : State) (o : OpenUnit) (p : Peer) (q : Request) → SideWrites t.side
    → CallWrites t.side t.opened (Some p) → Writes (on_request t o p q)
request_writes t o p request.Null a c = tt
request_writes t o p (request.Bind name password) a c =
    writes_if (bytes_eq name p.name && bytes_eq password p.expected_password) _ _ (stays _ (a, c) tt) tt
request_writes t o p (request.Recover x) a c = stays _ (a, c) tt

peer_writes : (t : State) (o : Option OpenUnit) (x : Result (Option Peer) NoMemory) → SideWrites t.side
    → TellsWritable t (event.Reply (reply.Peer x)) → Writes (on_peer t o x)
peer_writes t (Some o) (Ok (Some p)) a d =
    request_writes t o p o.request a (call_of t _ t.side t.opened p refl refl refl d)
peer_writes t (Some o) (Ok None) a d = tt
peer_writes t (Some o) (Err m) a d = tt
peer_writes t None (Ok x) a d = tt
peer_writes t None (Err m) a d = tt

stands_writes : (t : State) (o : Option OpenUnit) (p : Option Peer) (x : Option ℕ) → Ends_write t
    → Writes (on_stands t o p x)
stands_writes t o p (Some lane) a = tt
stands_writes t (Some o) (Some p) None a = writes_if (o.twa && not p.twa) _ _ tt (stays _ a tt)
stands_writes t (Some o) None None a = tt
stands_writes t None p None a = tt

answer_writes : (v : State) (x : Side) (o : Option OpenUnit) (p : Option Peer) → CallWrites x o p
    → CanWrite (in_phase v phase.PutsAccept) → Writes (puts_accept v (answer_for x o p))
answer_writes v (side.Initiator q) o p c w = tt
answer_writes v (side.Responder own) (Some o) (Some p) c w =
    (λ (f : Fits (in_phase v phase.PutsAccept)). c v.checkpoint v.window f.0.1, w)
answer_writes v (side.Responder own) (Some o) None c w = tt
answer_writes v (side.Responder own) None p c w = tt

accepts_writes : (v : State) → Ends_write v → Writes (accepts v)
accepts_writes v a = answer_writes v v.side v.opened v.line a.1 (stays _ a tt)

lane_keeps : (t : State) (o : Option OpenUnit) (p : Option Peer) (lane : ℕ) → Ends_write t
    → Ends_write (with_lane t o p lane)
lane_keeps t (Some o) (Some p) lane a = a
lane_keeps t (Some o) None lane a = a
lane_keeps t None p lane a = a

new_lane_writes : (t : State) (again : Bool) (x : Result ℕ StepFault) → Ends_write t → Writes (on_new_lane t again x)
new_lane_writes t again (Ok lane) a =
    accepts_writes (with_lane t t.opened t.line lane) (lane_keeps t t.opened t.line lane a)
new_lane_writes t true (Err (fault.BusyLanes count)) a = tt
new_lane_writes t false (Err (fault.BusyLanes count)) a = stays _ a tt
new_lane_writes t again (Err fault.Unexpected) a = tt
new_lane_writes t again (Err f) a = tt

room_writes : (t : State) (x : Result (Unit {0}) StepFault) → Ends_write t → Writes (on_room t x)
room_writes t (Ok x) a = lane_writes t t t.opened t.line true a
room_writes t (Err (fault.NoLane lane)) a = lane_writes t t t.opened t.line true a
room_writes t (Err (fault.Fenced generation)) a = lane_writes t t t.opened t.line true a
room_writes t (Err fault.Unexpected) a = lane_writes t t t.opened t.line true a
room_writes t (Err f) a = tt

pub opens_writes : (p : InitiatorPlan) (v : State) → CanOpen p → CanWrite (in_phase v phase.PutsOpen)
    → Writes (opens p v)
opens_writes p v c w = (λ (f : Fits (in_phase v phase.PutsOpen)). c v.checkpoint v.window v.twa f.0.1, w)

link_writes : (v : State) (x : Side) → SideWrites x → Ends_write v → Writes (answers_link v x)
link_writes v (side.Initiator p) s a = opens_writes p v s (stays _ a tt)
link_writes v (side.Responder own) s a = accepts_writes v a

step_writes : (t : State) (step : OwnStep) (x : Result (Unit {0}) StepFault) → Ends_write t → Writes (on_step t step x)
step_writes t step (Ok x) a = a
step_writes t step (Err fault.Unexpected) a = stays _ a tt
step_writes t step (Err f) a = tt

closed_writes : (t : State) (x : Side) → SideWrites t.side → Writes (closed t x)
closed_writes t (side.Initiator p) a = tt
closed_writes t (side.Responder own) a = (λ f. tt, record { side = a; call = λ n. absurd (cc); found = tt })

kind_writes : (k : Kind) (at : ℕ) → IsWritable (unit.Exception (kind_octet k) at)
kind_writes kind.Truncated at = record { first = omega arith; last = omega arith }
kind_writes any0 at = record { first = omega arith; last = omega arith }

pub reply_writes : (p : Phase) (t : State) (x : Reply) → t.phase ≡ p → SideWrites t.side
    → (is_silent p ≡ false → CallWrites t.side t.opened t.line) → PhaseWrites p → TellsWritable t (event.Reply x)
    → Writes (wanted_of_reply p t x)
reply_writes phase.AsksPeer t (reply.Peer x) q a c f d = peer_writes t t.opened x a d
reply_writes phase.AsksStands t (reply.LaneOf x) q a c f d = stands_writes t t.opened t.line x (a, c refl)
reply_writes (phase.AsksNewLane again) t (reply.LaneOpen x) q a c f d = new_lane_writes t again x (a, c refl)
reply_writes phase.AsksSpare t (reply.SpareLane (Some x)) q a c f d = stays _ (a, c refl) tt
reply_writes phase.AsksRoom t (reply.CloseLane x) q a c f d = room_writes t x (a, c refl)
reply_writes phase.AsksOldLane t (reply.LaneOf (Some x)) q a c f d = stays _ (a, c refl) tt
reply_writes phase.AsksBind t (reply.Bind (Ok x)) q a c f d = stays _ (a, c refl) tt
reply_writes phase.AsksBind t (reply.Bind (Err (fault.NoLane lane))) q a c f d = tt
reply_writes phase.AsksBind t (reply.Bind (Err x)) q a c f d = tt
reply_writes phase.AsksValues t (reply.Values (Some x)) q a c f d = stays _ (a, c refl) tt
reply_writes phase.AsksRecovery t (reply.Recovery (Some x)) q a c f d = stays _ (a, c refl) tt
reply_writes (phase.AsksReceiving state) t (reply.Receiving (Some x)) q a c f d =
    writes_if (is_idle state) _ _ (link_writes (restored (with_received t x) state []) t.side a (a, c refl))
    (stays _ (a, c refl) tt)
reply_writes (phase.AsksResumed state) t (reply.Resumed (Ok (Some x))) q a c f d =
    link_writes (restored t state x.octets) t.side a (a, c refl)
reply_writes phase.AsksAgree t (reply.LaneAgree (Ok x)) q a c f d = (a, c refl)
reply_writes phase.AsksDenied t (reply.Denied (Ok x)) q a c f d =
    record { side = a; call = λ n. absurd (cc); found = tt }
reply_writes phase.AsksDue t (reply.BatchFor (Ok (Some x))) q a c f d = (λ v. tt, stays _ (a, c refl) tt)
reply_writes phase.AsksDue t (reply.BatchFor (Ok None)) q a c f d = (a, c refl)
reply_writes phase.AsksBatch t (reply.BatchFor (Ok (Some x))) q a c f d = stays _ (a, c refl) tt
reply_writes phase.AsksBatch t (reply.BatchFor (Ok None)) q a c f d =
    writes_if (is_initiator t.side && not (t.please && t.twa)) _ _ (λ v. tt, stays _ (a, c refl) tt)
    (λ v. tt, stays _ (a, c refl) tt)
reply_writes phase.AsksStart t (reply.Start (Ok x)) q a c f d = (a, c refl)
reply_writes phase.AsksStart t (reply.Start (Err fault.Unexpected)) q a c f d = stays _ (a, c refl) tt
reply_writes phase.AsksStart t (reply.Start (Err x)) q a c f d = tt
reply_writes phase.AsksStillIdle t (reply.Recovery (Some x)) q a c f d =
    writes_if (is_still t.send.state x) _ _ (writes_if (nat_lt 1 t.left) _ _ (stays _ (a, c refl) tt) tt) tt
reply_writes (phase.AsksStep (own.Confirm m)) t (reply.Confirm x) q a c f d =
    step_writes t (own.Confirm m) x (a, c refl)
reply_writes (phase.AsksStep own.Ending) t (reply.Ending x) q a c f d = step_writes t own.Ending x (a, c refl)
reply_writes (phase.AsksStep own.Sent) t (reply.Sent x) q a c f d = step_writes t own.Sent x (a, c refl)
reply_writes (phase.AsksStep own.Dropped) t (reply.Dropped x) q a c f d = step_writes t own.Dropped x (a, c refl)
reply_writes (phase.AsksStep (own.Refused kind)) t (reply.Refused x) q a c f d =
    step_writes t (own.Refused kind) x (a, c refl)
reply_writes phase.AsksState t (reply.Recovery (Some x)) q a c f d = writes_if (is_given_up t x) _ _ (a, c refl) tt
reply_writes (phase.AsksSecure k m) t (reply.Secure (Ok x)) q a c f d = (a, c refl)
reply_writes (phase.AsksSecure k m) t (reply.Secure (Err (piece.Bad x))) q a c f d =
    ((a, c refl), kind_writes x.kind x.at)
reply_writes (phase.AsksSecure k m) t (reply.Secure (Err (piece.Step x))) q a c f d = tt
reply_writes (phase.AsksComplete k m) t (reply.Complete (Ok x)) q a c f d = (a, c refl)
reply_writes (phase.AsksComplete k m) t (reply.Complete (Err (piece.Bad x))) q a c f d =
    ((a, c refl), kind_writes x.kind x.at)
reply_writes (phase.AsksComplete k m) t (reply.Complete (Err (piece.Step x))) q a c f d = tt
reply_writes (phase.AsksDrop k (Some found)) t (reply.DropActivity (Ok x)) q a c f d = ((a, c refl), f)
reply_writes (phase.AsksDrop k None) t (reply.DropActivity (Ok x)) q a c f d = (a, c refl)
reply_writes phase.AsksClose t (reply.CloseLane (Ok x)) q a c f d = closed_writes t t.side a
reply_writes p t x q a c f d = tt
