-- What a session keeps from step to step.
use Rattle.std.specs.Prelude.{◌≡◌, ◌<◌, ◌≤◌, ℕ, ◌+◌, ◌-◌, ◌*◌, Bool, true, false, Option}
use Rattle.std.specs.Prelude.{Some, None, List, [], length}
use Rattle.mta_ber.specs.declared.memory.Memory.{Memory as NoMemory}
use Rattle.std.specs.Prelude.{Result, Ok, Err}
use Rattle.mta_lane_send.specs.declared.state.SendState.{SendState}
use Rattle.mta_lane_send.specs.declared.state.SendState.TheVariants as state
use Rattle.mta_lane_send.specs.Half.{goes_on, is_ending, is_sending, is_live, is_idle, last_of, confirmed_of}
use Rattle.mta_lane_recv.specs.Half.{is_done, is_partial_of, takes_piece}
use Rattle.mta_transfer_rules.specs.Sending as s
use Rattle.mta_transfer_rules.specs.Sending.{SendEnd, SendStage, synced}
use Rattle.mta_transfer_rules.specs.Receiving as r
use Rattle.mta_session.specs.declared.event.Side.{Side}
use Rattle.mta_session.specs.declared.event.Side.TheVariants as side
use Rattle.mta_session.specs.declared.event.SessionEnd.TheVariants as end
use Rattle.mta_session.specs.declared.event.Action.{Action}
use Rattle.mta_session.specs.declared.phase.Phase.{Phase}
use Rattle.mta_session.specs.declared.phase.Phase.TheVariants as phase
use Rattle.mta_session.specs.declared.phase.OwnStep.{OwnStep}
use Rattle.mta_session.specs.declared.phase.OwnStep.TheVariants as own
use Rattle.mta_session.specs.Receiving.{is_free}
use Rattle.mta_session.specs.RecvFits.{RecvFits}
use Rattle.mta_session.specs.Sending.{is_under_way}
use Rattle.mta_units.specs.declared.unit.OpenUnit.{OpenUnit}
use Rattle.mta_session.specs.declared.peer.Peer.{Peer}
use Rattle.mta_session.specs.State.{State, is_initiator}
use Rattle.mta_records.specs.declared.fault.StepFault.{StepFault}
use Rattle.mta_records.specs.declared.lane.LaneValues.{LaneValues}
use Rattle.mta_session.specs.declared.ask.Reply.{Reply}
use Rattle.mta_session.specs.declared.ask.Reply.TheVariants as reply
use Rattle.mta_session.specs.declared.event.Event.{Event}
use Rattle.mta_session.specs.declared.event.Event.TheVariants as event
use Rattle.mta_lane_recv.specs.declared.state.Last.{Last}
use Rattle.mta_lane_recv.specs.declared.state.Last.TheVariants as last
use Rattle.mta_lane_recv.specs.Half.{IsOfHigh}
use Rattle.mta_records.specs.Outgoing.{Carried}
use Rattle.mta_session.specs.Wanted.{Wanted}
use Rattle.mta_session.specs.Rank.{work, calls_left, FallsBelow, is_over}
use Rattle.mta_session.specs.Follows.{Does, GoesOn, Follows}

-- The own activity ------------------------------------------------------------------------------

-- a piece stands behind the first n
abbrev pub LeavesPieces : (size : ℕ) → List ℕ → (n : ℕ) → Type 0
LeavesPieces size octets n = (size * n < length octets) × (size ≡ 0 → n ≡ 0)

-- no more Syncs are put than the window lets
abbrev pub InWindow : SendEnd → (activity number : ℕ) → Type 0
InWindow e k n = goes_on e.state k ≡ true → (confirmed_of e.state ≤ n) × (n ≤ confirmed_of e.state + e.window)

abbrev pub StateFits : SendState → SendEnd → Type 0
StateFits (state.Sending k c) e = LeavesPieces e.size e.octets c
StateFits (state.Ending k c) e = LeavesPieces e.size e.octets c
StateFits _ e = Unit {0}

abbrev pub SendFitsAt : SendStage → SendEnd → Type 0
SendFitsAt s.Quiet e = is_idle e.state ≡ true
SendFitsAt s.Opened e = is_idle e.state ≡ false
SendFitsAt (s.Started k) e = ⊥
SendFitsAt (s.Next k n) e = (is_live e.state k ≡ true) × LeavesPieces e.size e.octets n × InWindow e k n
SendFitsAt (s.Sync_next k n) e = (is_live e.state k ≡ true) × LeavesPieces e.size e.octets n × InWindow e k n
SendFitsAt (s.Last_put k n) e = (is_live e.state k ≡ true) × LeavesPieces e.size e.octets (n - 1)
SendFitsAt (s.End_put k n) e = (is_ending e.state k ≡ true) × LeavesPieces e.size e.octets (n - 1)
SendFitsAt (s.Resume_put k n) e = (is_live e.state k ≡ true) × LeavesPieces e.size e.octets n × InWindow e k n
SendFitsAt (s.Discard_put k) e = is_live e.state k ≡ true

abbrev pub SendFits : SendEnd → Type 0
SendFits e = SendFitsAt e.stage e × StateFits e.state e × (length e.octets ≤ 2097152)

-- Between two calls of `step` --------------------------------------------------------------------

abbrev pub ValuesFit : (checkpoint window : ℕ) → Type 0
ValuesFit checkpoint window = (checkpoint ≤ 64) × (1 ≤ window) × (window ≤ 8)

-- the other end has a name
abbrev pub HasName : Side → Option OpenUnit → Type 0
HasName (side.Initiator p) opened = Unit {0}
HasName (side.Responder own) (Some o) = Unit {0}
HasName (side.Responder own) None = ⊥

-- nothing is known of the lane yet, or it is new
abbrev pub IsFresh : State → Type 0
IsFresh t =
    (1 ≤ t.left) × (is_idle t.send.state ≡ true) × (t.send.stage ≡ s.Quiet) × (t.send.octets ≡ [])
    × (t.recv.stage ≡ r.Free)

-- and no lane was looked at
abbrev pub IsBlank : State → Type 0
IsBlank t = IsFresh t × (t.send.state ≡ state.Idle 0) × (t.recv.high ≡ 0) × (t.recv.last ≡ last.None)

-- a responder's lane is agreed
abbrev pub AgreedFor : Side → (agreed : Bool) → Type 0
AgreedFor (side.Initiator p) agreed = Unit {0}
AgreedFor (side.Responder own) agreed = agreed ≡ true

-- the sending end has the lane's values
abbrev pub HasSize : State → Type 0
HasSize t = (t.send.size ≡ 1024 * t.checkpoint) × (t.send.window ≡ t.window)

-- the halves stand as they are on a link where nothing was done yet; a lane that is not agreed has no activity
abbrev pub IsReady : State → Type 0
IsReady t =
    (1 ≤ t.left) × ValuesFit t.checkpoint t.window × SendFits t.send × (is_under_way t.send.stage ≡ false)
    × (t.recv.stage ≡ r.Free)
    × (t.agreed ≡ false → (is_idle t.send.state ≡ true) × (t.send.stage ≡ s.Quiet))

abbrev pub HasPlan : Side → Type 0
HasPlan (side.Initiator p) = Unit {0}
HasPlan (side.Responder own) = ⊥

abbrev pub HasCall : Side → Option OpenUnit → Type 0
HasCall (side.Responder own) (Some o) = Unit {0}
HasCall _ _ = ⊥

abbrev pub HasLine : Option Peer → Type 0
HasLine (Some p) = ValuesFit p.checkpoint p.window
HasLine None = ⊥

-- a responder waits for what comes
abbrev pub Listens : State → Type 0
Listens t = (t.send.accepted ≡ true) × (t.ours ≡ false)

abbrev pub IsCalled : State → Type 0
IsCalled t = IsBlank t × HasCall t.side t.opened × Listens t

abbrev pub HasLink : Side → State → Type 0
HasLink (side.Initiator p) t = Unit {0}
HasLink (side.Responder own) t = HasCall (side.Responder own) t.opened × HasLine t.line × Listens t

-- the lane is open: its values are agreed
abbrev pub IsLive : State → Type 0
IsLive t =
    (1 ≤ t.left) × ValuesFit t.checkpoint t.window × (t.send.accepted ≡ true) × SendFits t.send
    × HasName t.side t.opened × (t.agreed ≡ true) × HasSize t

-- a holder of the turn takes no transfer
abbrev pub HoldsFree : State → Type 0
HoldsFree t = t.ours ≡ true → is_free t.recv.stage ≡ true

abbrev pub StepFits : OwnStep → SendEnd → Type 0
StepFits (own.Confirm n) e =
    (is_under_way e.stage ≡ true) × (goes_on e.state (last_of e.state) ≡ true) × LeavesPieces e.size e.octets n
    × (confirmed_of e.state < n) × (n ≤ synced e.stage)
StepFits own.Sent e = (is_under_way e.stage ≡ true) × (is_ending e.state (last_of e.state) ≡ true)
StepFits own.Ending e = (is_sending e.state (last_of e.state) ≡ true) × (k n : ℕ) × (e.stage ≡ s.Last_put k n)
StepFits step e = is_under_way e.stage ≡ true

-- a session that is over
abbrev pub HoldsNothing : State → Type 0
HoldsNothing t = (t.send.octets ≡ []) × (t.recv.stage ≡ r.Free)

abbrev pub BeginsAt : Side → State → Type 0
BeginsAt (side.Initiator p) t = ValuesFit t.checkpoint t.window × (t.agreed ≡ false)
BeginsAt (side.Responder own) t = Listens t

-- what was started is the next activity, and it has octets
abbrev pub StartFits : SendEnd → Result Carried StepFault → Type 0
StartFits e (Ok o) = (o.activity ≡ last_of e.state + 1) × (1 ≤ length o.octets) × (length o.octets ≤ 2097152)
StartFits e (Err f) = Unit {0}

abbrev pub FitsAt : Phase → State → Type 0
FitsAt phase.Begin t = IsBlank t × BeginsAt t.side t
FitsAt phase.ReadsOpen t = IsBlank t × (is_initiator t.side ≡ false) × Listens t
FitsAt phase.AsksPeer t = IsCalled t
FitsAt phase.AsksStands t = IsCalled t × HasLine t.line
FitsAt (phase.AsksNewLane again) t = IsCalled t × HasLine t.line
FitsAt phase.AsksSpare t = IsCalled t × HasLine t.line
FitsAt phase.AsksRoom t = IsCalled t × HasLine t.line
FitsAt phase.AsksOldLane t = IsCalled t × HasLine t.line
FitsAt phase.AsksBind t = IsCalled t × HasLine t.line
FitsAt phase.AsksValues t = IsFresh t × HasLink t.side t
FitsAt phase.AsksRecovery t = IsFresh t × HasLink t.side t × ValuesFit t.checkpoint t.window
    × AgreedFor t.side t.agreed
FitsAt (phase.AsksReceiving state) t =
    IsFresh t × HasLink t.side t × ValuesFit t.checkpoint t.window × (t.agreed ≡ false → is_idle state ≡ true)
    × AgreedFor t.side t.agreed
FitsAt (phase.AsksResumed state) t =
    IsFresh t × HasLink t.side t × ValuesFit t.checkpoint t.window × (t.agreed ≡ true) × (is_idle state ≡ false)
FitsAt phase.PutsOpen t = IsReady t × HasPlan t.side
FitsAt phase.ReadsAnswer t = IsReady t × HasPlan t.side
FitsAt phase.AsksAgree t = IsReady t × HasPlan t.side × (is_idle t.send.state ≡ true) × (t.send.stage ≡ s.Quiet)
FitsAt phase.AsksDenied t = (1 ≤ t.left) × HoldsNothing t
FitsAt phase.PutsAccept t = IsLive t × (t.recv.stage ≡ r.Free) × (t.ours ≡ false)
FitsAt phase.AsksDue t = IsLive t × (t.recv.stage ≡ r.Free) × (t.ours ≡ false)
FitsAt phase.Puts t = IsLive t × RecvFits t.checkpoint t.recv × HoldsFree t
FitsAt phase.Reads t = IsLive t × RecvFits t.checkpoint t.recv × HoldsFree t × r.OwesNothing t.recv
FitsAt phase.AsksBatch t = IsLive t × HoldsFree t × (t.ours ≡ true) × (t.send.stage ≡ s.Quiet)
FitsAt phase.AsksStart t = IsLive t × HoldsFree t × (t.ours ≡ true) × (t.send.stage ≡ s.Quiet)
FitsAt phase.AsksStillIdle t = IsLive t × HoldsFree t × (t.ours ≡ true) × (t.send.stage ≡ s.Quiet)
FitsAt (phase.AsksStep step) t = IsLive t × HoldsFree t × (t.ours ≡ true) × StepFits step t.send
FitsAt phase.AsksState t = IsLive t × HoldsFree t × (t.ours ≡ true)
FitsAt (phase.AsksSecure k n) t =
    IsLive t × (t.ours ≡ false) × (t.recv.stage ≡ r.Synced k n []) × (is_done t.recv.last k ≡ false)
    × (takes_piece t.recv.high t.recv.last k n ≡ true)
    × (t.recv.from < n) × (t.recv.acked + 1 ≡ n)
FitsAt (phase.AsksComplete k n) t =
    IsLive t × (t.ours ≡ false) × (t.recv.stage ≡ r.Ended k n []) × (is_done t.recv.last k ≡ false)
    × (takes_piece t.recv.high t.recv.last k n ≡ true)
FitsAt (phase.AsksDrop k None) t =
    IsLive t × (t.ours ≡ false) × (t.recv.stage ≡ r.Discards k) × (is_partial_of t.recv.last k ≡ true)
FitsAt (phase.AsksDrop k (Some found)) t =
    IsLive t × (t.ours ≡ false) × (t.recv.stage ≡ r.Found k) × (is_partial_of t.recv.last k ≡ true)
FitsAt phase.PutsClose t = IsLive t × HoldsFree t × (t.ours ≡ true) × (t.send.stage ≡ s.Quiet)
FitsAt phase.ReadsCloseAck t = IsLive t × HoldsFree t × (t.ours ≡ true) × (t.send.stage ≡ s.Quiet)
FitsAt phase.AsksClose t = (1 ≤ t.left) × HoldsNothing t
FitsAt (phase.AsksLast e) t = HoldsNothing t
FitsAt (phase.PutsLast e) t = (e ≡ end.Broken → ⊥) × (length t.send.octets ≤ 2097152)
    × (t.recv.stage ≡ r.Free)
FitsAt (phase.Ended e) t = HoldsNothing t

abbrev pub Fits : State → Type 0
Fits t = FitsAt t.phase t

-- A step that may want memory: after that answer nothing has changed.
abbrev pub StepsAs : State → Wanted → (bound : ℕ) → Result Action NoMemory → State → Type 0
StepsAs t w bound (Ok a) new = Does t w a new × Fits new × FallsBelow t bound new
StepsAs t w bound (Err m) new = new ≡ t

-- the same of what goes on from here
abbrev pub GoesOnAs : State → Result Action NoMemory → State → Type 0
GoesOnAs t (Ok a) new = GoesOn t a new × Fits new × FallsBelow t (3 + work t) new
GoesOnAs t (Err m) new = new ≡ t

-- The event answers the last action ----------------------------------------------------------------

abbrev pub LineFits : Result (Option Peer) NoMemory → Type 0
LineFits (Ok (Some p)) = ValuesFit p.checkpoint p.window
LineFits _ = Unit {0}

abbrev pub LaneFits : Side → Option LaneValues → Type 0
LaneFits side (Some v) = ValuesFit v.checkpoint v.window × AgreedFor side v.agreed
LaneFits side None = ⊥

abbrev pub HalfFits : (agreed : Bool) → Option SendState → Type 0
HalfFits agreed (Some state) = agreed ≡ false → is_idle state ≡ true
HalfFits agreed None = ⊥

abbrev pub IsTold : Option (ℕ × Last) → Type 0
IsTold (Some x) = IsOfHigh x.0 x.1
IsTold None = ⊥

abbrev pub CarriesOn : (size : ℕ) → SendState → List ℕ → Type 0
CarriesOn size (state.Sending k c) octets = LeavesPieces size octets c
CarriesOn size (state.Ending k c) octets = LeavesPieces size octets c
CarriesOn size _ octets = Unit {0}

abbrev pub ResumedFits : (checkpoint : ℕ) → SendState → Result (Option Carried) NoMemory → Type 0
ResumedFits checkpoint state (Ok (Some o)) = (length o.octets ≤ 2097152)
    × CarriesOn (1024 * checkpoint) state o.octets
ResumedFits checkpoint state (Ok None) = ⊥
ResumedFits checkpoint state (Err m) = Unit {0}

abbrev pub AnswersStep : OwnStep → Reply → Type 0
AnswersStep (own.Confirm n) (reply.Confirm x) = Unit {0}
AnswersStep own.Ending (reply.Ending x) = Unit {0}
AnswersStep own.Sent (reply.Sent x) = Unit {0}
AnswersStep own.Dropped (reply.Dropped x) = Unit {0}
AnswersStep (own.Refused k) (reply.Refused x) = Unit {0}
AnswersStep _ x = ⊥

abbrev pub RepliesTo : Phase → State → Reply → Type 0
RepliesTo phase.AsksPeer t (reply.Peer x) = LineFits x
RepliesTo phase.AsksStands t (reply.LaneOf x) = Unit {0}
RepliesTo (phase.AsksNewLane again) t (reply.LaneOpen x) = Unit {0}
RepliesTo phase.AsksSpare t (reply.SpareLane x) = Unit {0}
RepliesTo phase.AsksRoom t (reply.CloseLane x) = Unit {0}
RepliesTo phase.AsksOldLane t (reply.LaneOf x) = Unit {0}
RepliesTo phase.AsksBind t (reply.Bind x) = Unit {0}
RepliesTo phase.AsksValues t (reply.Values x) = LaneFits t.side x
RepliesTo phase.AsksRecovery t (reply.Recovery x) = HalfFits t.agreed x
RepliesTo (phase.AsksReceiving state) t (reply.Receiving x) = IsTold x
RepliesTo (phase.AsksResumed state) t (reply.Resumed x) = ResumedFits t.checkpoint state x
RepliesTo phase.AsksAgree t (reply.LaneAgree x) = Unit {0}
RepliesTo phase.AsksDenied t (reply.Denied x) = Unit {0}
RepliesTo phase.AsksDue t (reply.BatchFor x) = Unit {0}
RepliesTo phase.AsksBatch t (reply.BatchFor x) = Unit {0}
RepliesTo phase.AsksStart t (reply.Start x) = StartFits t.send x
RepliesTo phase.AsksStillIdle t (reply.Recovery x) = Unit {0}
RepliesTo (phase.AsksStep step) t x = AnswersStep step x
RepliesTo phase.AsksState t (reply.Recovery x) = Unit {0}
RepliesTo (phase.AsksSecure k n) t (reply.Secure x) = Unit {0}
RepliesTo (phase.AsksComplete k n) t (reply.Complete x) = Unit {0}
RepliesTo (phase.AsksDrop k found) t (reply.DropActivity x) = Unit {0}
RepliesTo phase.AsksClose t (reply.CloseLane x) = Unit {0}
RepliesTo (phase.AsksLast e) t x = Unit {0}
RepliesTo _ t x = ⊥

abbrev pub answers_read : Event → Bool
answers_read (event.Unit x) = true
answers_read event.BadUnit = true
answers_read event.Over = true
answers_read _ = false

abbrev pub answers_put : Event → Bool
answers_put event.Go = true
answers_put event.Over = true
answers_put _ = false

abbrev pub is_go : Event → Bool
is_go event.Go = true
is_go _ = false

abbrev pub AnswersAsk : Phase → State → Event → Type 0
AnswersAsk p t (event.Reply x) = RepliesTo p t x
AnswersAsk p t _ = ⊥

abbrev pub AnswersAt : Phase → State → Event → Type 0
AnswersAt phase.Begin t e = is_go e ≡ true
AnswersAt phase.ReadsOpen t e = answers_read e ≡ true
AnswersAt phase.ReadsAnswer t e = answers_read e ≡ true
AnswersAt phase.Reads t e = answers_read e ≡ true
AnswersAt phase.ReadsCloseAck t e = answers_read e ≡ true
AnswersAt phase.PutsOpen t e = answers_put e ≡ true
AnswersAt phase.PutsAccept t e = answers_put e ≡ true
AnswersAt phase.Puts t e = answers_put e ≡ true
AnswersAt phase.PutsClose t e = answers_put e ≡ true
AnswersAt (phase.PutsLast x) t e = answers_put e ≡ true
AnswersAt (phase.Ended x) t e = Unit {0}
AnswersAt p t e = AnswersAsk p t e

abbrev pub Answers : State → Event → Type 0
Answers t e = AnswersAt t.phase t e

-- the session follows, or wants memory and is as before
abbrev pub FollowsAs : State → Event → Result Action NoMemory → State → Type 0
FollowsAs t e (Ok a) new = Follows t e a new × Fits new
    × (is_over t.phase ≡ false → calls_left new < calls_left t)
FollowsAs t e (Err m) new = new ≡ t

-- a session that reads, once the unit is counted
abbrev pub CountedFits : Phase → State → Type 0
CountedFits phase.ReadsOpen t = FitsAt phase.ReadsOpen t
CountedFits phase.ReadsAnswer t = FitsAt phase.ReadsAnswer t
CountedFits phase.ReadsCloseAck t = FitsAt phase.ReadsCloseAck t
CountedFits phase.Reads t = FitsAt phase.Reads t
CountedFits _ t = ⊥
