-- A responder without its lane asks for no step that concerns pieces, and none goes back to that.
use Rattle.std.proofs.Common.{◌≡◌, ℕ, Bool, true, false, cond, not, ◌&&◌, ◌==◌, bytes_eq, Option, None, Some}
use Rattle.std.proofs.Common.{Result, Ok, Err, refl, ap, ◌∙◌}
use Rattle.mta_ber.specs.declared.memory.Memory.{Memory as NoMemory}
use Rattle.mta_records.specs.declared.fault.StepFault.{StepFault}
use Rattle.mta_records.specs.declared.fault.StepFault.TheVariants as fault
use Rattle.mta_rtse.specs.declared.types.Request.{Request}
use Rattle.mta_rtse.specs.declared.types.Request.TheVariants as request
use Rattle.mta_units.specs.declared.unit.OpenUnit.{OpenUnit}
use Rattle.mta_units.specs.declared.unit.Unit.{Unit as AnyUnit}
use Rattle.mta_units.specs.declared.unit.Unit.TheVariants as unit
use Rattle.mta_session.specs.declared.ask.Reply.{Reply}
use Rattle.mta_session.specs.declared.ask.Reply.TheVariants as reply
use Rattle.mta_session.specs.declared.event.Action.{Action}
use Rattle.mta_session.specs.declared.event.Event.{Event}
use Rattle.mta_session.specs.declared.event.Event.TheVariants as event
use Rattle.mta_session.specs.declared.peer.Peer.{Peer}
use Rattle.mta_session.specs.declared.phase.Phase.{Phase}
use Rattle.mta_session.specs.declared.phase.Phase.TheVariants as phase
use Rattle.mta_session.specs.Follows.{counted, Does}
use Rattle.mta_session.specs.State.{State}
use Rattle.mta_session.specs.Wanted.{Wanted, Aborts, Rejects, Ends, Puts, Asks, Reads, Goes_on, Excepts, Never}
use Rattle.mta_session.specs.Wanted.{asks_lane, asks_spare, on_bind, on_new_lane, on_old_lane, on_open, on_peer}
use Rattle.mta_session.specs.Wanted.{on_request, on_room, on_spare, on_stands, wanted_of_reply, wanted_of_unit}
use Rattle.mta_session_laws.specs.Runs.{IsTurn, Turn}
use Rattle.mta_session_laws.proofs.Opening.{wanted_in}
use Rattle.mta_session_laws.proofs.Whole.{is_ended}
use Rattle.mta_session_list_laws.specs.Calls.{StepOn}
use Rattle.mta_session_list_laws.specs.Lists.{step_by}
use Rattle.mta_session_list_laws.proofs.Found.{never}
use Rattle.mta_session_list_laws.proofs.Waiting.{does_at, over_says}
use Rattle.mta_worker_list_laws.proofs.Calm.{ended_over}

-- a session without a lane, or that comes to its end
abbrev pub has_none : Phase → Bool
has_none phase.ReadsOpen = true
has_none phase.AsksPeer = true
has_none phase.AsksStands = true
has_none (phase.AsksNewLane again) = true
has_none phase.AsksSpare = true
has_none phase.AsksRoom = true
has_none phase.AsksOldLane = true
has_none phase.AsksBind = true
has_none (phase.PutsLast e) = true
has_none (phase.Ended e) = true
has_none p = false

-- what is wanted leads to such a phase, and puts nothing but Reject or Abort
abbrev pub Unlisted : Wanted → Type 0
Unlisted (Asks a u) = has_none u.phase ≡ true
Unlisted (Puts x u) = ⊥
Unlisted (Reads u) = has_none u.phase ≡ true
Unlisted (Goes_on u) = ⊥
Unlisted (Excepts u found) = ⊥
Unlisted (Aborts reason) = Unit {0}
Unlisted (Rejects reason) = Unit {0}
Unlisted (Ends e) = Unit {0}
Unlisted Never = Unit {0}

does_unlisted : (t : State) (w : Wanted) (a : Action) (new : State) → Unlisted w → Does t w a new
    → has_none new.phase ≡ true
does_unlisted t (Puts x u) a new i d = absurd i
does_unlisted t (Asks q u) a new i d = ap (λ (z : State). has_none z.phase) d.1 ∙ i
does_unlisted t (Reads u) a new i d = ap (λ (z : State). has_none z.phase) d.1 ∙ i
does_unlisted t (Goes_on u) a new i d = absurd i
does_unlisted t (Excepts u found) a new i d = absurd i
does_unlisted t Never a new i d = absurd d
does_unlisted t any1 a new i d = ap (λ (z : State). has_none z.phase) d.1

either : (b : Bool) (x y : Wanted) → Unlisted x → Unlisted y → Unlisted (cond b x y)
either true x y i j = i
either false x y i j = j

-- ---- a responder's opening

asks_lane_so : (t : State) (o : Option OpenUnit) (p : Option Peer) (again : Bool) → Unlisted (asks_lane t o p again)
asks_lane_so t (Some o) (Some p) again = refl
asks_lane_so t (Some o) None again = tt
asks_lane_so t None p again = tt

open_so : (t : State) (x : AnyUnit) → Unlisted (on_open t x)
open_so t (unit.Open o) = refl
open_so t (unit.Abort reason) = tt
open_so t x = tt

request_so : (t : State) (o : OpenUnit) (p : Peer) (r : Request) → Unlisted (on_request t o p r)
request_so t o p request.Null = tt
request_so t o p (request.Bind name password) =
    either (bytes_eq name p.name && bytes_eq password p.expected_password) _ (Rejects 2) refl tt
request_so t o p (request.Recover reference) = refl

peer_so : (t : State) (o : Option OpenUnit) (x : Result (Option Peer) NoMemory) → Unlisted (on_peer t o x)
peer_so t (Some o) (Ok (Some p)) = request_so t o p o.request
peer_so t (Some o) (Ok None) = tt
peer_so t (Some o) (Err m) = tt
peer_so t None (Ok x) = tt
peer_so t None (Err m) = tt

stands_so : (t : State) (o : Option OpenUnit) (p : Option Peer) (x : Option ℕ) → Unlisted (on_stands t o p x)
stands_so t o p (Some lane) = tt
stands_so t (Some o) (Some p) None =
    either (o.twa && not p.twa) (Rejects 3) (asks_lane t (Some o) (Some p) false) tt
    (asks_lane_so t (Some o) (Some p) false)
stands_so t (Some o) None None = tt
stands_so t None p None = tt

spare_so : (t : State) (again : Bool) → Unlisted (asks_spare t again)
spare_so t true = tt
spare_so t false = refl

refused_so : (t : State) (again : Bool) (f : StepFault) → Unlisted (on_new_lane t again (Err f))
refused_so t again (fault.BusyLanes count) = spare_so t again
refused_so t again fault.Unexpected = tt
refused_so t again f = tt

found_so : (t : State) (x : Option (ℕ × ℕ)) → Unlisted (on_spare t x)
found_so t (Some x) = refl
found_so t None = tt

room_so : (t : State) (x : Result (Unit {0}) StepFault) → Unlisted (on_room t x)
room_so t (Ok y) = asks_lane_so t t.opened t.line true
room_so t (Err (fault.NoLane lane)) = asks_lane_so t t.opened t.line true
room_so t (Err (fault.Fenced generation)) = asks_lane_so t t.opened t.line true
room_so t (Err fault.Unexpected) = asks_lane_so t t.opened t.line true
room_so t (Err f) = tt

old_so : (t : State) (x : Option ℕ) → Unlisted (on_old_lane t x)
old_so t (Some lane) = refl
old_so t None = tt

bind_so : (t : State) (f : StepFault) → Unlisted (on_bind t (Err f))
bind_so t (fault.NoLane lane) = tt
bind_so t f = tt

-- ---- one call

none_is : (x : StepOn) → Some x ≡ None → ⊥
none_is x e = cc

reply_so : (p : Phase) (t : State) (x : Reply) (new : State) → has_none p ≡ true
    → step_by p (event.Reply x) new ≡ None → Unlisted (wanted_of_reply p t x)
reply_so phase.AsksPeer t (reply.Peer x) new i none = peer_so t t.opened x
reply_so phase.AsksStands t (reply.LaneOf x) new i none = stands_so t t.opened t.line x
reply_so (phase.AsksNewLane again) t (reply.LaneOpen (Ok lane)) new i none = absurd (none_is _ none)
reply_so (phase.AsksNewLane again) t (reply.LaneOpen (Err f)) new i none = refused_so t again f
reply_so phase.AsksSpare t (reply.SpareLane x) new i none = found_so t x
reply_so phase.AsksRoom t (reply.CloseLane x) new i none = room_so t x
reply_so phase.AsksOldLane t (reply.LaneOf x) new i none = old_so t x
reply_so phase.AsksBind t (reply.Bind (Ok g)) new i none = absurd (none_is _ none)
reply_so phase.AsksBind t (reply.Bind (Err f)) new i none = bind_so t f
reply_so phase.AsksValues t x new i none = absurd (never i)
reply_so phase.AsksRecovery t x new i none = absurd (never i)
reply_so (phase.AsksReceiving state) t x new i none = absurd (never i)
reply_so (phase.AsksResumed state) t x new i none = absurd (never i)
reply_so phase.AsksAgree t x new i none = absurd (never i)
reply_so phase.AsksDenied t x new i none = absurd (never i)
reply_so phase.AsksDue t x new i none = absurd (never i)
reply_so phase.AsksBatch t x new i none = absurd (never i)
reply_so phase.AsksStart t x new i none = absurd (never i)
reply_so phase.AsksStillIdle t x new i none = absurd (never i)
reply_so (phase.AsksStep step) t x new i none = absurd (never i)
reply_so phase.AsksState t x new i none = absurd (never i)
reply_so (phase.AsksSecure k n) t x new i none = absurd (never i)
reply_so (phase.AsksComplete k n) t x new i none = absurd (never i)
reply_so (phase.AsksDrop k found) t x new i none = absurd (never i)
reply_so phase.AsksClose t x new i none = absurd (never i)
reply_so (phase.AsksLast e) t x new i none = absurd (never i)
reply_so p t x new i none = tt

unit_so : (p : Phase) (t : State) (x : AnyUnit) → has_none p ≡ true → Unlisted (wanted_of_unit p t x)
unit_so phase.ReadsOpen t x i = open_so t x
unit_so phase.ReadsAnswer t x i = absurd (never i)
unit_so phase.ReadsCloseAck t x i = absurd (never i)
unit_so phase.Reads t x i = absurd (never i)
unit_so p t x i = tt

put_so : (p : Phase) (t : State) → has_none p ≡ true → Unlisted (wanted_in p t event.Go)
put_so phase.Begin t i = absurd (never i)
put_so phase.PutsOpen t i = absurd (never i)
put_so phase.PutsAccept t i = absurd (never i)
put_so phase.Puts t i = absurd (never i)
put_so phase.PutsClose t i = absurd (never i)
put_so (phase.PutsLast e) t i = tt
put_so p t i = tt

over_so : (p : Phase) (t : State) → Unlisted (wanted_in p t event.Over)
over_so (phase.PutsLast e) t = tt
over_so p t = tt

pub wanted_so : (p : Phase) (t : State) (e : Event) (new : State) → has_none p ≡ true → step_by p e new ≡ None
    → Unlisted (wanted_in p t e)
wanted_so p t event.Go new i none = put_so p t i
wanted_so p t (event.Unit x) new i none =
    either (t.left == 0) (Aborts 3) (wanted_of_unit p t x) tt (unit_so p t x i)
wanted_so p t event.BadUnit new i none = either (t.left == 0) (Aborts 3) (Aborts 4) tt tt
wanted_so p t (event.Reply x) new i none = reply_so p t x new i none
wanted_so p t event.Over new i none = over_so p t

-- One call of a responder without its lane that does not give it one.
pub unlisted_next : (x : Turn) → IsTurn x → has_none x.before.phase ≡ true
    → step_by x.before.phase x.event x.after ≡ None → has_none x.after.phase ≡ true
unlisted_next x is i none = by_end (is_ended x.before.phase) refl
  where
    by_end : (b : Bool) → is_ended x.before.phase ≡ b → has_none x.after.phase ≡ true
    by_end false e =
        does_unlisted (counted x.before x.event) (wanted_in x.before.phase (counted x.before x.event) x.event) x.action
        x.after (wanted_so x.before.phase (counted x.before x.event) x.event x.after i none)
        (does_at x x.event refl is e)
    by_end true e =
        ap (λ (z : State). has_none z.phase)
        (over_says x.before.phase x (ended_over x.before.phase e) is.follows).1 ∙ i
