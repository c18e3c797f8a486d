-- Why a session ends. For each end: what the event was at which the session turned to it.
use Rattle.std.specs.Prelude.{◌≡◌, ◌≤◌, ◌⊎◌, ℕ, ◌&&◌, not, Bool, true, false, Option, Some}
use Rattle.std.specs.Prelude.{None, Result, Ok, Err}
use Rattle.std.specs.Str.{bytes_eq}
use Rattle.mta_ber.specs.declared.memory.Memory.{Memory as NoMemory}
use Rattle.mta_rtse.specs.declared.types.Request.{Request}
use Rattle.mta_rtse.specs.declared.types.Request.TheVariants as request
use Rattle.mta_rtse.specs.declared.types.Answer.{Answer}
use Rattle.mta_rtse.specs.declared.types.Answer.TheVariants as answer
use Rattle.mta_units.specs.declared.unit.Unit.{Unit as AnyUnit}
use Rattle.mta_units.specs.declared.unit.Unit.TheVariants as unit
use Rattle.mta_units.specs.declared.unit.OpenUnit.{OpenUnit}
use Rattle.mta_lane_send.specs.declared.state.SendState.{SendState}
use Rattle.mta_lane_recv.specs.Half.{is_done, is_partial_of}
use Rattle.mta_records.specs.declared.fault.StepFault.{StepFault}
use Rattle.mta_records.specs.declared.fault.StepFault.TheVariants as fault
use Rattle.mta_records.specs.declared.fault.CompleteFault.{CompleteFault}
use Rattle.mta_records.specs.declared.fault.CompleteFault.TheVariants as piece
use Rattle.mta_transfer_rules.specs.Receiving as r
use Rattle.mta_transfer_rules.specs.Receiving.{RecvEnd}
use Rattle.mta_session.specs.declared.ask.Reply.{Reply}
use Rattle.mta_session.specs.declared.ask.Reply.TheVariants as reply
use Rattle.mta_session.specs.declared.event.Event.{Event}
use Rattle.mta_session.specs.declared.event.Event.TheVariants as event
use Rattle.mta_session.specs.declared.event.Action.{Action}
use Rattle.mta_session.specs.declared.event.Side.{Side}
use Rattle.mta_session.specs.declared.event.Side.TheVariants as side
use Rattle.mta_session.specs.declared.event.SessionEnd.{SessionEnd}
use Rattle.mta_session.specs.declared.event.SessionEnd.TheVariants as end
use Rattle.mta_session.specs.declared.peer.Peer.{Peer}
use Rattle.mta_session.specs.declared.phase.Phase.{Phase}
use Rattle.mta_session.specs.declared.phase.Phase.TheVariants as phase
use Rattle.mta_session.specs.Receiving.{taken, is_free}
use Rattle.mta_session.specs.Sending.{called, heard}
use Rattle.mta_session.specs.State.{State, is_initiator}
use Rattle.mta_session.specs.Wanted.{abort_of, is_refused_value, is_same_reference, is_still, is_given_up}
use Rattle.mta_session.specs.Follows.{Follows}
use Rattle.mta_session.specs.Fits.{Fits}

-- the end that a session has turned to: it is reached in a few calls, whatever comes
abbrev pub end_of : Phase → Option SessionEnd
end_of phase.AsksDenied = Some (end.Rejected 1)
end_of (phase.AsksLast x) = Some x
end_of (phase.PutsLast x) = Some x
end_of (phase.Ended x) = Some x
end_of _ = None

-- Refusals -----------------------------------------------------------------------------------

abbrev pub refusal : {A : Type 0} → Result A StepFault → Option StepFault
refusal (Ok x) = None
refusal (Err f) = Some f

abbrev pub piece_refusal : {A : Type 0} → Result A CompleteFault → Option StepFault
piece_refusal (Ok x) = None
piece_refusal (Err (piece.Step f)) = Some f
piece_refusal (Err (piece.Bad f)) = None

-- a step was refused for this
abbrev pub refused_in : Reply → Option StepFault
refused_in (reply.LaneOpen x) = refusal x
refused_in (reply.LaneAgree x) = refusal x
refused_in (reply.Bind x) = refusal x
refused_in (reply.Start x) = refusal x
refused_in (reply.Confirm x) = refusal x
refused_in (reply.Ending x) = refusal x
refused_in (reply.Sent x) = refusal x
refused_in (reply.Dropped x) = refusal x
refused_in (reply.Refused x) = refusal x
refused_in (reply.Secure x) = piece_refusal x
refused_in (reply.Complete x) = piece_refusal x
refused_in (reply.DropActivity x) = refusal x
refused_in (reply.CloseLane x) = refusal x
refused_in _ = None

abbrev pub has_failed : {A : Type 0} → Result A NoMemory → Bool
has_failed (Ok x) = false
has_failed (Err m) = true

-- a look wanted memory
abbrev pub wants_memory : Reply → Bool
wants_memory (reply.BatchFor x) = has_failed x
wants_memory (reply.Resumed x) = has_failed x
wants_memory (reply.Peer x) = has_failed x
wants_memory _ = false

-- Units that are not allowed -----------------------------------------------------------------

-- with the turn: no step is called for, and the rules of the sending end do not let it pass
abbrev pub IsUnheard : State → AnyUnit → Type 0
IsUnheard t (unit.Please priority) = t.twa ≡ false
IsUnheard t x = (called t.send x ≡ None) × (heard t.send x ≡ None)

-- without it: the rules of the receiving end do not take it
abbrev pub IsUntaken : State → AnyUnit → Type 0
IsUntaken t unit.Give = (t.twa && is_free t.recv.stage) ≡ false
IsUntaken t unit.Close = (not (is_initiator t.side) && is_free t.recv.stage) ≡ false
IsUntaken t (unit.Please priority) = t.twa ≡ false
IsUntaken t x = taken t.checkpoint t.recv x ≡ None

abbrev pub IsUnallowed : (ours : Bool) → State → AnyUnit → Type 0
IsUnallowed ours t (unit.Abort reason) = ⊥
IsUnallowed true t x = IsUnheard t x
IsUnallowed false t x = IsUntaken t x

-- an Accept of the wrong kind, or of another lane
abbrev pub IsWrongAnswer : Side → Answer → Type 0
IsWrongAnswer (side.Initiator p) (answer.Bind name password) = p.recovering ≡ true
IsWrongAnswer (side.Initiator p) (answer.Recover x) = (p.recovering && is_same_reference x p.reference) ≡ false
IsWrongAnswer (side.Responder own) a = ⊥

abbrev pub NotAllowed : Phase → State → AnyUnit → Type 0
NotAllowed phase.ReadsOpen t (unit.Open o) = ⊥
NotAllowed phase.ReadsOpen t (unit.Abort reason) = ⊥
NotAllowed phase.ReadsOpen t x = Unit {0}
NotAllowed phase.ReadsAnswer t (unit.Accept c w a) = IsWrongAnswer t.side a
NotAllowed phase.ReadsAnswer t (unit.Reject reason) = ⊥
NotAllowed phase.ReadsAnswer t (unit.Abort reason) = ⊥
NotAllowed phase.ReadsAnswer t x = Unit {0}
NotAllowed phase.ReadsCloseAck t unit.CloseAck = ⊥
NotAllowed phase.ReadsCloseAck t (unit.Please priority) = t.twa ≡ false
NotAllowed phase.ReadsCloseAck t (unit.Abort reason) = ⊥
NotAllowed phase.ReadsCloseAck t x = Unit {0}
NotAllowed phase.Reads t x = IsUnallowed t.ours t x
NotAllowed _ t x = ⊥

-- a look told of another state than a refused step leaves
abbrev pub IsOtherState : Phase → State → Option SendState → Type 0
IsOtherState phase.AsksStillIdle t (Some told) = is_still t.send.state told ≡ false
IsOtherState phase.AsksState t (Some told) = is_given_up t told ≡ false
IsOtherState phase.AsksStillIdle t None = Unit {0}
IsOtherState phase.AsksState t None = Unit {0}
IsOtherState _ t told = ⊥

-- The receiving end as it stands, or as the unit leaves it that it takes now
abbrev pub Takes : State → Event → RecvEnd → Type 0
Takes t (event.Unit x) f = (f ≡ t.recv) ⊎ (taken t.checkpoint t.recv x ≡ Some f)
Takes t e f = f ≡ t.recv

-- the answerer shows another name or password than the peer's
abbrev pub IsOther : Side → Answer → Type 0
IsOther (side.Initiator p) (answer.Bind name password) =
    (bytes_eq name p.peer && bytes_eq password p.expected_password) ≡ false
IsOther _ a = ⊥

-- The Abort that the session puts
pub data AbortCause (t : State) (e : Event) : (reason : ℕ) → Type 0 where
  -- localSystemProblem, temporaryProblem or protocolError: a step was refused
  Step_refused : (x : Reply) (f : StepFault) → e ≡ event.Reply x → refused_in x ≡ Some f
      → AbortCause t e (abort_of f)
  -- localSystemProblem: a look wanted memory
  Look_failed : (x : Reply) → e ≡ event.Reply x → wants_memory x ≡ true → AbortCause t e 0
  -- invalidParameter: values above the proposed ones, a window of 0, or values unlike those of an agreed lane
  Values_refused : (c w : ℕ) (a : Answer) → e ≡ event.Unit (unit.Accept c w a)
      → is_refused_value t c w ≡ true →
      AbortCause t e 1
  -- unrecognizedActivity: Resume came of an activity of which nothing stands
  Not_standing :
      (f : RecvEnd) (k n : ℕ) → Takes t e f → f.stage ≡ r.Asked k n → is_done f.last k ≡ false →
      is_partial_of f.last k ≡ false →
      AbortCause t e 2
  -- temporaryProblem: the unit, or the refused start, is the last that the limit lets come
  Too_many : t.left ≤ 1 → AbortCause t e 3
  -- protocolError: no unit, a unit that is not allowed, or another state of the half
  Bad_unit : e ≡ event.BadUnit → AbortCause t e 4
  Not_allowed : (x : AnyUnit) → e ≡ event.Unit x → NotAllowed t.phase t x → AbortCause t e 4
  Other_state : (told : Option SendState) → e ≡ event.Reply (reply.Recovery told)
      → IsOtherState t.phase t told →
      AbortCause t e 4
  -- permanentProblem: the answer's name or password is not the peer's
  Not_the_peer : (c w : ℕ) (a : Answer) → e ≡ event.Unit (unit.Accept c w a) → IsOther t.side a
      → AbortCause t e 5
  -- transferCompleted: Discard came of an activity that is done
  Is_done : (f : RecvEnd) (k : ℕ) → Takes t e f → f.stage ≡ r.Discards k → is_done f.last k ≡ true
      → AbortCause t e 7

-- the request shows no name and password, or others than the peer's
abbrev pub IsNotLetIn : Peer → Request → Type 0
IsNotLetIn p request.Null = Unit {0}
IsNotLetIn p (request.Bind name password) = (bytes_eq name p.name && bytes_eq password p.expected_password) ≡ false
IsNotLetIn p (request.Recover x) = ⊥

-- The Reject that the session puts
pub data RejectCause (t : State) (e : Event) : (reason : ℕ) → Type 0 where
  -- rtsBusy: there are as many lanes as may be, and none makes room, or they are as many again
  No_room : e ≡ event.Reply (reply.SpareLane None) → RejectCause t e 0
  Busy_again : (count : ℕ) → t.phase ≡ phase.AsksNewLane true →
      e ≡ event.Reply (reply.LaneOpen (Err (fault.BusyLanes count))) → RejectCause t e 0
  -- cannotRecover: no lane of that name and reference is open
  No_lane : t.phase ≡ phase.AsksOldLane → e ≡ event.Reply (reply.LaneOf None) → RejectCause t e 1
  Not_bound : (lane : ℕ) → e ≡ event.Reply (reply.Bind (Err (fault.NoLane lane))) → RejectCause t e 1
  -- validationFailure: the name is no peer's, its name and password are not shown, or the reference stands already
  No_line : e ≡ event.Reply (reply.Peer (Ok None)) → RejectCause t e 2
  Not_let_in : (o : OpenUnit) (p : Peer) → t.opened ≡ Some o → e ≡ event.Reply (reply.Peer (Ok (Some p))) →
      IsNotLetIn p o.request → RejectCause t e 2
  Reference_stands : (lane : ℕ) → t.phase ≡ phase.AsksStands → e ≡ event.Reply (reply.LaneOf (Some lane)) →
      RejectCause t e 2
  Not_opened : e ≡ event.Reply (reply.LaneOpen (Err fault.Unexpected)) → RejectCause t e 2
  -- unacceptableDialogueMode: two-way alternate dialogue is asked for, and the tables say monologue
  One_way_alone :
      (o : OpenUnit) (p : Peer) → t.opened ≡ Some o → t.line ≡ Some p → (o.twa && not p.twa) ≡ true →
      e ≡ event.Reply (reply.LaneOf None) →
      RejectCause t e 3

abbrev pub EndCause : State → Event → SessionEnd → Type 0
EndCause t e end.Closed = (t.phase ≡ phase.AsksClose) × (e ≡ event.Reply (reply.CloseLane (Ok tt)))
EndCause t e end.Broken = e ≡ event.Over
EndCause t e (end.Rejected reason) = (t.phase ≡ phase.ReadsAnswer) × (e ≡ event.Unit (unit.Reject reason))
EndCause t e (end.PeerAborted reason) = e ≡ event.Unit (unit.Abort reason)
EndCause t e (end.Refused reason) = RejectCause t e reason
EndCause t e (end.Aborted reason) = AbortCause t e reason

-- A session turns to an end only for its cause.
abbrev pub EndsHaveCauses : Type 0
EndsHaveCauses =
    (t : State) (e : Event) (a : Action) (new : State) (x : SessionEnd) → end_of t.phase ≡ None → Fits t →
    Follows t e a new →
    end_of new.phase ≡ Some x → EndCause t e x
