-- What the last event calls for: the rules of an association over one link, by phase and event.
use Rattle.std.specs.Prelude.{ℕ, ◌-◌, ◌&&◌, ◌||◌, ◌==◌, nat_lt, not, min, max, if◌then◌else◌}
use Rattle.std.specs.Prelude.{Bool, true, false, Option, Some, None, Result, Ok, Err, List, []}
use Rattle.std.specs.Str.{bytes_eq}
use Rattle.mta_ber.specs.declared.memory.Memory.{Memory as NoMemory}
use Rattle.mta_ber.specs.declared.fault.Fault.{Fault}
use Rattle.mta_ber.specs.declared.fault.Kind.{Kind}
use Rattle.mta_ber.specs.declared.fault.Kind.TheVariants as kind
use Rattle.mta_records.specs.Reference.{Identifier}
use Rattle.mta_rtse.specs.declared.types.Request.{Request}
use Rattle.mta_rtse.specs.declared.types.Request.TheVariants as request
use Rattle.mta_rtse.specs.declared.types.Answer.{Answer}
use Rattle.mta_rtse.specs.declared.types.Answer.TheVariants as answer
use Rattle.mta_units.specs.declared.unit.Unit.{Unit as AnyUnit}
use Rattle.mta_units.specs.declared.unit.Unit.TheVariants as unit
use Rattle.mta_units.specs.declared.unit.OpenUnit.{OpenUnit}
use Rattle.mta_lane_send.specs.declared.state.SendState.{SendState}
use Rattle.mta_lane_send.specs.declared.state.SendState.TheVariants as state
use Rattle.mta_lane_send.specs.Half.{is_idle, is_ending, is_sending, last_of}
use Rattle.mta_lane_recv.specs.declared.state.Last.{Last}
use Rattle.mta_transfer_rules.specs.Sending as s
use Rattle.mta_transfer_rules.specs.Sending.{SendStage, IsCut, is_discarded, stage_on_link}
use Rattle.mta_transfer_rules.specs.Receiving as r
use Rattle.mta_session.specs.declared.ask.Ask.{Ask}
use Rattle.mta_session.specs.declared.ask.Ask.TheVariants as ask
use Rattle.mta_session.specs.declared.ask.Reply.{Reply}
use Rattle.mta_session.specs.declared.ask.Reply.TheVariants as reply
use Rattle.mta_session.specs.declared.event.Event.{Event}
use Rattle.mta_session.specs.declared.event.Event.TheVariants as event
use Rattle.mta_session.specs.declared.event.Side.{Side}
use Rattle.mta_session.specs.declared.event.Side.TheVariants as side
use Rattle.mta_session.specs.declared.event.InitiatorPlan.{InitiatorPlan}
use Rattle.mta_session.specs.declared.event.SessionEnd.{SessionEnd}
use Rattle.mta_session.specs.declared.event.SessionEnd.TheVariants as end
use Rattle.mta_records.specs.declared.lane.Batch.{Batch}
use Rattle.mta_records.specs.declared.lane.LaneRole.TheVariants as role
use Rattle.mta_records.specs.declared.lane.LaneValues.{LaneValues}
use Rattle.mta_session.specs.declared.peer.Peer.{Peer}
use Rattle.mta_records.specs.declared.fault.StepFault.{StepFault}
use Rattle.mta_records.specs.declared.fault.StepFault.TheVariants as fault
use Rattle.mta_records.specs.declared.fault.CompleteFault.{CompleteFault}
use Rattle.mta_records.specs.declared.fault.CompleteFault.TheVariants as piece
use Rattle.mta_session.specs.declared.phase.Phase.{Phase}
use Rattle.mta_session.specs.declared.phase.Phase.TheVariants as phase
use Rattle.mta_session.specs.declared.phase.Found.{Found}
use Rattle.mta_session.specs.declared.phase.OwnStep.{OwnStep}
use Rattle.mta_session.specs.declared.phase.OwnStep.TheVariants as own
use Rattle.mta_records.specs.Outgoing.{Carried}
use Rattle.mta_session.specs.Receiving.{taken, is_free}
use Rattle.mta_session.specs.Sending.{called, heard, step_of, is_discard_put}
use Rattle.mta_session.specs.State.{State, in_phase, let_go, is_initiator, peer_of, with_values}

pub data Wanted : Type 0 where
  -- a last unit
  Aborts : (reason : ℕ) → Wanted
  Rejects : (reason : ℕ) → Wanted
  Ends : SessionEnd → Wanted
  -- this unit or question, and the session is here then
  Puts : AnyUnit → State → Wanted
  Asks : Ask → State → Wanted
  Reads : State → Wanted
  -- whatever the rules of the two ends call for here
  Goes_on : State → Wanted
  -- the same for octets that are none of a message
  Excepts : State → Found → Wanted
  -- what does not come here
  Never : Wanted

-- A refused step. Where no room, number or disk is left it is temporaryProblem, for want of memory
-- localSystemProblem, and else the last unit is not one that the half allows.
abbrev pub abort_of : StepFault → ℕ
abort_of (fault.Full size need) = 3
abort_of fault.Disk = 3
abort_of fault.Ended = 3
abort_of (fault.Spent last) = 3
abort_of fault.Memory = 0
abort_of (fault.Fenced generation) = 4
abort_of (fault.NoLane lane) = 4
abort_of (fault.BusyLanes count) = 4
abort_of fault.Unexpected = 4

-- An initiator opens ------------------------------------------------------------------------

abbrev pub request_of : InitiatorPlan → Request
request_of p = if p.recovering then request.Recover p.reference else request.Bind p.own p.send_password

abbrev pub open_unit : InitiatorPlan → State → OpenUnit
open_unit p t =
    record {
      name = p.own;
      reference = p.reference;
      checkpoint = t.checkpoint;
      window = t.window;
      twa = t.twa;
      request = request_of p;
    }

abbrev pub opens : InitiatorPlan → State → Wanted
opens p t = Puts (unit.Open (open_unit p t)) (in_phase t phase.PutsOpen)

abbrev pub begins : Side → State → Wanted
begins (side.Initiator p) t = if p.recovering then Asks (ask.Values t.lane) (in_phase t phase.AsksValues) else opens p t
begins (side.Responder own) t = Reads (in_phase t phase.ReadsOpen)

-- the first Accept on the link: the initiator has the turn
abbrev pub starts : State → Wanted
starts t = Goes_on (record t { agreed = true; ours = true; send = record t.send { accepted = true } })

-- above the values that were proposed, or other than those of an agreed lane
abbrev pub is_refused_value : State → (checkpoint window : ℕ) → Bool
is_refused_value t c w =
    nat_lt t.checkpoint c || nat_lt t.window w || (w == 0)
    || (t.agreed && not ((c == t.checkpoint) && (w == t.window)))

abbrev pub on_values : State → (checkpoint window : ℕ) → Wanted
on_values t c w =
    if is_refused_value t c w then Aborts 1
    else (if t.agreed then starts t
    else Asks (ask.LaneAgree t.lane t.generation c w) (in_phase (with_values t c w) phase.AsksAgree))

abbrev pub is_same_additional : Option (List ℕ) → Option (List ℕ) → Bool
is_same_additional None None = true
is_same_additional (Some x) (Some y) = bytes_eq x y
is_same_additional _ _ = false

abbrev pub is_same_reference : Identifier → Identifier → Bool
is_same_reference a b =
    bytes_eq a.calling b.calling && (a.common == b.common) && is_same_additional a.additional b.additional

abbrev pub on_accept : InitiatorPlan → State → (checkpoint window : ℕ) → Answer → Wanted
on_accept p t c w (answer.Bind name password) =
    if p.recovering then Aborts 4
    else (if bytes_eq name p.peer && bytes_eq password p.expected_password then on_values t c w else Aborts 5)
on_accept p t c w (answer.Recover reference) =
    if p.recovering && is_same_reference reference p.reference then on_values t c w else Aborts 4

-- the lane is closed, whatever comes of it
abbrev pub closes_rejected : State → (reason : ℕ) → Wanted
closes_rejected t reason =
    Asks (ask.CloseLane t.lane t.generation) (in_phase (let_go t) (phase.AsksLast (end.Rejected reason)))

-- cannotRecover denies what was under way and closes the lane, and so does any Reject close a new one
abbrev pub on_reject : InitiatorPlan → State → (reason : ℕ) → Wanted
on_reject p t reason =
    if (reason == 1) && not (is_idle t.send.state)
    then Asks (ask.Denied t.lane t.generation (last_of t.send.state)) (in_phase (let_go t) phase.AsksDenied)
    else (if (reason == 1) || not p.recovering then closes_rejected t reason else Ends (end.Rejected reason))

-- A responder is opened ---------------------------------------------------------------------

abbrev pub on_open : State → AnyUnit → Wanted
on_open t (unit.Open o) = Asks (ask.Peer o.name) (record t { phase = phase.AsksPeer; opened = Some o })
on_open t (unit.Abort reason) = Ends (end.PeerAborted reason)
on_open t _ = Aborts 4

abbrev pub with_line : State → Peer → State
with_line t p = record t { line = Some p }

abbrev pub on_request : State → OpenUnit → Peer → Request → Wanted
on_request t o p request.Null = Rejects 2
on_request t o p (request.Bind name password) =
    if bytes_eq name p.name && bytes_eq password p.expected_password
    then Asks (ask.LaneOf role.Responder o.name (Some o.reference)) (in_phase (with_line t p) phase.AsksStands)
    else Rejects 2
on_request t o p (request.Recover reference) =
    Asks (ask.LaneOf role.Responder o.name (Some reference)) (in_phase (with_line t p) phase.AsksOldLane)

abbrev pub on_peer : State → Option OpenUnit → Result (Option Peer) NoMemory → Wanted
on_peer t (Some o) (Ok (Some p)) = on_request t o p o.request
on_peer t (Some o) (Ok None) = Rejects 2
on_peer t o (Err m) = Aborts 0
on_peer t None r = Never

-- one side's 0 asks for whole messages
abbrev pub agreed_checkpoint : (asked offered : ℕ) → ℕ
agreed_checkpoint asked offered = if (asked == 0) || (offered == 0) then 0 else min asked offered

abbrev pub agreed_window : (asked offered : ℕ) → ℕ
agreed_window asked offered = max 1 (min asked offered)

abbrev pub new_lane : OpenUnit → Peer → Ask
new_lane o p =
    ask.LaneOpen role.Responder o.name o.reference o.twa
    (agreed_checkpoint o.checkpoint p.checkpoint) (agreed_window o.window p.window)

abbrev pub asks_lane : State → Option OpenUnit → Option Peer → (again : Bool) → Wanted
asks_lane t (Some o) (Some p) again = Asks (new_lane o p) (in_phase t (phase.AsksNewLane again))
asks_lane t _ _ again = Never

-- the reference does not stand yet: a new lane, two-way alternate only where the tables say so
abbrev pub on_stands : State → Option OpenUnit → Option Peer → Option ℕ → Wanted
on_stands t o p (Some lane) = Rejects 2
on_stands t (Some o) (Some p) None = if o.twa && not p.twa then Rejects 3 else asks_lane t (Some o) (Some p) false
on_stands t _ _ None = Never

-- Accept, in answer to what was asked
abbrev pub answer_to : (own : List ℕ) → Peer → Request → Answer
answer_to own p (request.Recover reference) = answer.Recover reference
answer_to own p (request.Bind name password) = answer.Bind own p.send_password
answer_to own p request.Null = answer.Bind own p.send_password

abbrev pub answer_for : Side → Option OpenUnit → Option Peer → Option Answer
answer_for (side.Responder own) (Some o) (Some p) = Some (answer_to own p o.request)
answer_for _ _ _ = None

abbrev pub puts_accept : State → Option Answer → Wanted
puts_accept t (Some a) = Puts (unit.Accept t.checkpoint t.window a) (in_phase t phase.PutsAccept)
puts_accept t None = Never

abbrev pub accepts : State → Wanted
accepts t = puts_accept t (answer_for t.side t.opened t.line)

abbrev pub with_lane : State → Option OpenUnit → Option Peer → (lane : ℕ) → State
with_lane t (Some o) (Some p) lane =
    with_values (record t { lane = lane; generation = 1; twa = o.twa; agreed = true })
    (agreed_checkpoint o.checkpoint p.checkpoint) (agreed_window o.window p.window)
with_lane t _ _ lane = t

-- room is made once, by a lane that carries nothing
abbrev pub asks_spare : State → (again : Bool) → Wanted
asks_spare t true = Rejects 0
asks_spare t false = Asks (ask.SpareLane role.Responder (peer_of t.side t.opened)) (in_phase t phase.AsksSpare)

abbrev pub on_new_lane : State → (again : Bool) → Result ℕ StepFault → Wanted
on_new_lane t again (Ok lane) = accepts (with_lane t t.opened t.line lane)
on_new_lane t again (Err (fault.BusyLanes count)) = asks_spare t again
on_new_lane t again (Err fault.Unexpected) = Rejects 2
on_new_lane t again (Err f) = Aborts (abort_of f)

abbrev pub on_spare : State → Option (ℕ × ℕ) → Wanted
on_spare t (Some x) = Asks (ask.CloseLane x.0 x.1) (in_phase t phase.AsksRoom)
on_spare t None = Rejects 0

-- another worker may have closed or recovered that lane since
abbrev pub on_room : State → Result (Unit {0}) StepFault → Wanted
on_room t (Ok _) = asks_lane t t.opened t.line true
on_room t (Err (fault.NoLane lane)) = asks_lane t t.opened t.line true
on_room t (Err (fault.Fenced generation)) = asks_lane t t.opened t.line true
on_room t (Err fault.Unexpected) = asks_lane t t.opened t.line true
on_room t (Err f) = Aborts (abort_of f)

abbrev pub on_old_lane : State → Option ℕ → Wanted
on_old_lane t (Some lane) = Asks (ask.Bind lane) (record t { phase = phase.AsksBind; lane = lane })
on_old_lane t None = Rejects 1

abbrev pub on_bind : State → Result ℕ StepFault → Wanted
on_bind t (Ok generation) = Asks (ask.Values t.lane) (record t { phase = phase.AsksValues; generation = generation })
on_bind t (Err (fault.NoLane lane)) = Rejects 1
on_bind t (Err f) = Aborts (abort_of f)

-- What a recovered lane holds ---------------------------------------------------------------

abbrev pub on_lane_values : State → Option LaneValues → Wanted
on_lane_values t (Some v) =
    let told = with_values (record t { twa = v.twa; agreed = v.agreed }) v.checkpoint v.window in
    Asks (ask.Recovery t.lane) (in_phase told phase.AsksRecovery)
on_lane_values t None = Never

abbrev pub on_recovery : State → Option SendState → Wanted
on_recovery t (Some state) = Asks (ask.Receiving t.lane) (in_phase t (phase.AsksReceiving state))
on_recovery t None = Never

-- the halves of the lane on this link
abbrev pub restored : State → SendState → (octets : List ℕ) → State
restored t state octets =
    record t { send = record t.send { state = state; octets = octets; stage = stage_on_link state; heard = None } }

-- the initiator opens, the responder accepts
abbrev pub answers_link : State → Side → Wanted
answers_link t (side.Initiator p) = opens p t
answers_link t (side.Responder own) = accepts t

abbrev pub with_received : State → ℕ × Last → State
with_received t x = record t { recv = record { high = x.0; last = x.1; stage = r.Free; from = 0; acked = 0 } }

abbrev pub on_received : State → SendState → Wanted
on_received t state =
    if is_idle state then answers_link (restored t state []) t.side
    else Asks (ask.Resumed t.lane) (in_phase t (phase.AsksResumed state))

abbrev pub on_receiving : State → SendState → Option (ℕ × Last) → Wanted
on_receiving t state (Some x) = on_received (with_received t x) state
on_receiving t state None = Never

abbrev pub on_resumed : State → SendState → Result (Option Carried) NoMemory → Wanted
on_resumed t state (Ok (Some o)) = answers_link (restored t state o.octets) t.side
on_resumed t state (Ok None) = Never
on_resumed t state (Err m) = Aborts 0

-- The turn ----------------------------------------------------------------------------------

abbrev pub puts_please : State → Wanted
puts_please t = Puts (unit.Please 0) (record t { phase = phase.Puts; please = true })

abbrev pub gives : State → Wanted
gives t = Puts unit.Give (record t { phase = phase.Puts; ours = false; please = false })

abbrev pub asks_batch : State → Wanted
asks_batch t = Asks (ask.BatchFor (peer_of t.side t.opened)) (in_phase t phase.AsksBatch)

abbrev pub asks_due : State → Wanted
asks_due t = Asks (ask.BatchFor (peer_of t.side t.opened)) (in_phase t phase.AsksDue)

-- a responder that has something to send asks for the turn right behind its Accept
abbrev pub after_accept : State → Wanted
after_accept t =
    if t.twa then (if is_idle t.send.state then asks_due t else puts_please t) else Goes_on t

abbrev pub on_due : State → Result (Option Batch) NoMemory → Wanted
on_due t (Ok (Some batch)) = puts_please t
on_due t (Ok None) = Goes_on t
on_due t (Err m) = Aborts 0

-- nothing is due: the initiator closes, unless it was asked for the turn, and the responder gives the turn back
abbrev pub on_batch : State → Result (Option Batch) NoMemory → Wanted
on_batch t (Ok (Some batch)) = Asks (ask.Start t.lane t.generation batch) (in_phase t phase.AsksStart)
on_batch t (Ok None) =
    if is_initiator t.side && not (t.please && t.twa) then Puts unit.Close (in_phase t phase.PutsClose) else gives t
on_batch t (Err m) = Aborts 0

-- Steps of the own half ---------------------------------------------------------------------

abbrev pub ask_of : State → OwnStep → Ask
ask_of t (own.Confirm n) = ask.Confirm t.lane t.generation (last_of t.send.state) n
ask_of t own.Ending = ask.Ending t.lane t.generation (last_of t.send.state)
ask_of t own.Sent = ask.Sent t.lane t.generation (last_of t.send.state)
ask_of t own.Dropped = ask.Dropped t.lane t.generation (last_of t.send.state)
ask_of t (own.Refused kind) = ask.Refused t.lane t.generation (last_of t.send.state) kind

abbrev pub on_start : State → Result Carried StepFault → Wanted
on_start t (Ok o) = Goes_on (record t { send = s.made t.send (s.Start o.octets) })
on_start t (Err fault.Unexpected) = Asks (ask.Recovery t.lane) (in_phase t phase.AsksStillIdle)
on_start t (Err f) = Aborts (abort_of f)

-- another worker was first with a recipient: the refused start counts as a unit
abbrev pub is_still : SendState → SendState → Bool
is_still (state.Idle last) (state.Idle told) = told == last
is_still _ _ = false

abbrev pub on_still_idle : State → Option SendState → Wanted
on_still_idle t (Some told) =
    if is_still t.send.state told
    then (if nat_lt 1 t.left then asks_batch (record t { left = t.left - 1 }) else Aborts 3)
    else Aborts 4
on_still_idle t None = Aborts 4

-- a settled activity is let go
abbrev pub after_step : s.SendEnd → OwnStep → s.SendEnd
after_step e (own.Confirm n) = s.made e (s.Confirm n)
after_step e own.Ending = s.made e s.To_end
after_step e step = record (s.made e (step_of step)) { octets = [] }

abbrev pub on_step : State → OwnStep → Result (Unit {0}) StepFault → Wanted
on_step t step (Ok _) = Goes_on (record t { send = after_step t.send step })
on_step t step (Err fault.Unexpected) = Asks (ask.Recovery t.lane) (in_phase t phase.AsksState)
on_step t step (Err f) = Aborts (abort_of f)

-- Another worker gave the activity up, which is discarded then. No one does so once End may be put.
abbrev pub is_cut : SendStage → ℕ → Bool
is_cut s.Quiet k = false
is_cut s.Opened k = true
is_cut (s.Started j) k = k == j
is_cut (s.Next j n) k = k == j
is_cut (s.Sync_next j n) k = k == j
is_cut (s.Last_put j n) k = k == j
is_cut (s.End_put j n) k = false
is_cut (s.Resume_put j n) k = k == j
is_cut (s.Discard_put j) k = false

abbrev pub is_given_up : State → SendState → Bool
is_given_up t (state.Dropping k) = is_sending t.send.state k && is_cut t.send.stage k
is_given_up t _ = false

abbrev pub on_state : State → Option SendState → Wanted
on_state t (Some told) = if is_given_up t told then Goes_on (record t { send = s.made t.send s.Abandon }) else Aborts 4
on_state t None = Aborts 4

-- Steps of the other end's transfer ---------------------------------------------------------

abbrev pub kind_octet : Kind → ℕ
kind_octet kind.Truncated = 1
kind_octet kind.BadLength = 2
kind_octet kind.BadTag = 3
kind_octet kind.TooDeep = 4
kind_octet kind.BadInt = 5
kind_octet kind.BadText = 6
kind_octet kind.BadTime = 7
kind_octet kind.Missing = 8
kind_octet kind.Twice = 9
kind_octet kind.BadSize = 10
kind_octet kind.TooLong = 11
kind_octet kind.Trailing = 12

abbrev pub found_of : Fault → Found
found_of f = record { kind = kind_octet f.kind; at = f.at }

abbrev pub on_secured : State → (activity number : ℕ) → Result (Unit {0}) CompleteFault → Wanted
on_secured t k n (Ok _) = Goes_on (record t { recv = r.made t.recv (r.Secure k n []) })
on_secured t k n (Err (piece.Bad f)) = Excepts (record t { recv = r.found t.recv k }) (found_of f)
on_secured t k n (Err (piece.Step f)) = Aborts (abort_of f)

abbrev pub on_completed : State → (activity number : ℕ) → Result ℕ CompleteFault → Wanted
on_completed t k n (Ok item) = Goes_on (record t { recv = r.made t.recv (r.Complete k n []) })
on_completed t k n (Err (piece.Bad f)) = Excepts (record t { recv = r.found t.recv k }) (found_of f)
on_completed t k n (Err (piece.Step f)) = Aborts (abort_of f)

abbrev pub goes_on_with : Option Found → State → Wanted
goes_on_with (Some found) t = Excepts t found
goes_on_with None t = Goes_on t

abbrev pub on_dropped : State → (activity : ℕ) → Option Found → Result (Unit {0}) StepFault → Wanted
on_dropped t k found (Ok _) = goes_on_with found (record t { recv = r.made t.recv (r.Drop k) })
on_dropped t k found (Err f) = Aborts (abort_of f)

-- A unit on an open session -----------------------------------------------------------------

-- an Abort settles what it answers, and the session is over
abbrev pub on_abort : State → (reason : ℕ) → Wanted
on_abort t reason =
    let k = last_of t.send.state in
    if (reason == 2) && not (is_idle t.send.state)
    then Asks (ask.Denied t.lane t.generation k) (in_phase (let_go t) (phase.AsksLast (end.PeerAborted reason)))
    else (if (reason == 7) && is_ending t.send.state k && is_discard_put t.send.stage k
    then Asks (ask.Sent t.lane t.generation k) (in_phase (let_go t) (phase.AsksLast (end.PeerAborted reason)))
    else Ends (end.PeerAborted reason))

-- with the turn: answers to what was put, and Please
abbrev pub goes_on_if : State → Option s.SendEnd → Wanted
goes_on_if t (Some e) = Goes_on (record t { send = e })
goes_on_if t None = Aborts 4

abbrev pub makes_or : State → AnyUnit → Option OwnStep → Wanted
makes_or t u (Some step) = Asks (ask_of t step) (in_phase t (phase.AsksStep step))
makes_or t u None = goes_on_if t (heard t.send u)

abbrev pub as_holder : State → AnyUnit → Wanted
as_holder t (unit.Please priority) =
    if t.twa then Goes_on (record t { please = t.please || is_initiator t.side }) else Aborts 4
as_holder t u = makes_or t u (called t.send u)

-- without it: the other end's transfers, Give, and Close
abbrev pub on_close : State → Wanted
on_close t =
    if t.please then Goes_on t
    else (if t.twa && not (is_idle t.send.state) then puts_please t
    else Asks (ask.CloseLane t.lane t.generation) (in_phase (let_go t) phase.AsksClose))

-- a Please that crossed a Give, or came again, means nothing
abbrev pub passes_please : State → Wanted
passes_please t = if t.twa then Goes_on t else Aborts 4

abbrev pub takes : State → Option r.RecvEnd → Wanted
takes t (Some e) = Goes_on (record t { recv = e })
takes t None = Aborts 4

abbrev pub as_listener : State → AnyUnit → Wanted
as_listener t unit.Give =
    if t.twa && is_free t.recv.stage then Goes_on (record t { ours = true; please = false }) else Aborts 4
as_listener t unit.Close = if not (is_initiator t.side) && is_free t.recv.stage then on_close t else Aborts 4
as_listener t (unit.Please priority) = passes_please t
as_listener t u = takes t (taken t.checkpoint t.recv u)

abbrev pub on_unit : State → AnyUnit → Wanted
on_unit t (unit.Abort reason) = on_abort t reason
on_unit t u = if t.ours then as_holder t u else as_listener t u

abbrev pub on_answer_by : Side → State → AnyUnit → Wanted
on_answer_by (side.Initiator p) t (unit.Accept c w a) = on_accept p t c w a
on_answer_by (side.Initiator p) t (unit.Reject reason) = on_reject p t reason
on_answer_by (side.Initiator p) t (unit.Abort reason) = on_abort t reason
on_answer_by _ t u = Aborts 4

abbrev pub on_close_ack : State → AnyUnit → Wanted
on_close_ack t unit.CloseAck = Asks (ask.CloseLane t.lane t.generation) (in_phase (let_go t) phase.AsksClose)
on_close_ack t (unit.Please priority) = if t.twa then gives t else Aborts 4
on_close_ack t (unit.Abort reason) = on_abort t reason
on_close_ack t u = Aborts 4

abbrev pub closed : State → Side → Wanted
closed t (side.Initiator p) = Ends end.Closed
closed t (side.Responder own) = Puts unit.CloseAck (in_phase (let_go t) (phase.PutsLast end.Closed))

abbrev pub on_closed : State → Result (Unit {0}) StepFault → Wanted
on_closed t (Ok _) = closed t t.side
on_closed t (Err f) = Aborts (abort_of f)

abbrev pub on_denied : State → Result (Unit {0}) StepFault → Wanted
on_denied t (Ok _) = closes_rejected t 1
on_denied t (Err f) = Ends (end.Rejected 1)

abbrev pub on_agreed : State → Result (Unit {0}) StepFault → Wanted
on_agreed t (Ok _) = starts t
on_agreed t (Err f) = Aborts (abort_of f)

-- By phase ----------------------------------------------------------------------------------

-- unit number `limits.units` is one too many, whatever it says
abbrev pub within : State → Wanted → Wanted
within t wanted = if t.left == 0 then Aborts 3 else wanted

abbrev pub wanted_of_unit : Phase → State → AnyUnit → Wanted
wanted_of_unit phase.ReadsOpen t u = on_open t u
wanted_of_unit phase.ReadsAnswer t u = on_answer_by t.side t u
wanted_of_unit phase.ReadsCloseAck t u = on_close_ack t u
wanted_of_unit phase.Reads t u = on_unit t u
wanted_of_unit _ t u = Never

abbrev pub wanted_of_go : Phase → State → Wanted
wanted_of_go phase.Begin t = begins t.side t
wanted_of_go phase.PutsOpen t = Reads (in_phase t phase.ReadsAnswer)
wanted_of_go phase.PutsAccept t = after_accept t
wanted_of_go phase.Puts t = Goes_on t
wanted_of_go phase.PutsClose t = Reads (in_phase t phase.ReadsCloseAck)
wanted_of_go (phase.PutsLast e) t = Ends e
wanted_of_go _ t = Never

-- Closed is only where CloseAck was wholly put
abbrev pub cut_short : SessionEnd → SessionEnd
cut_short end.Closed = end.Broken
cut_short e = e

abbrev pub wanted_of_over : Phase → Wanted
wanted_of_over (phase.PutsLast e) = Ends (cut_short e)
wanted_of_over _ = Ends end.Broken

abbrev pub wanted_of_reply : Phase → State → Reply → Wanted
wanted_of_reply phase.AsksPeer t (reply.Peer x) = on_peer t t.opened x
wanted_of_reply phase.AsksStands t (reply.LaneOf x) = on_stands t t.opened t.line x
wanted_of_reply (phase.AsksNewLane again) t (reply.LaneOpen x) = on_new_lane t again x
wanted_of_reply phase.AsksSpare t (reply.SpareLane x) = on_spare t x
wanted_of_reply phase.AsksRoom t (reply.CloseLane x) = on_room t x
wanted_of_reply phase.AsksOldLane t (reply.LaneOf x) = on_old_lane t x
wanted_of_reply phase.AsksBind t (reply.Bind x) = on_bind t x
wanted_of_reply phase.AsksValues t (reply.Values x) = on_lane_values t x
wanted_of_reply phase.AsksRecovery t (reply.Recovery x) = on_recovery t x
wanted_of_reply (phase.AsksReceiving state) t (reply.Receiving x) = on_receiving t state x
wanted_of_reply (phase.AsksResumed state) t (reply.Resumed x) = on_resumed t state x
wanted_of_reply phase.AsksAgree t (reply.LaneAgree x) = on_agreed t x
wanted_of_reply phase.AsksDenied t (reply.Denied x) = on_denied t x
wanted_of_reply phase.AsksDue t (reply.BatchFor x) = on_due t x
wanted_of_reply phase.AsksBatch t (reply.BatchFor x) = on_batch t x
wanted_of_reply phase.AsksStart t (reply.Start x) = on_start t x
wanted_of_reply phase.AsksStillIdle t (reply.Recovery x) = on_still_idle t x
wanted_of_reply (phase.AsksStep (own.Confirm n)) t (reply.Confirm x) = on_step t (own.Confirm n) x
wanted_of_reply (phase.AsksStep own.Ending) t (reply.Ending x) = on_step t own.Ending x
wanted_of_reply (phase.AsksStep own.Sent) t (reply.Sent x) = on_step t own.Sent x
wanted_of_reply (phase.AsksStep own.Dropped) t (reply.Dropped x) = on_step t own.Dropped x
wanted_of_reply (phase.AsksStep (own.Refused k)) t (reply.Refused x) = on_step t (own.Refused k) x
wanted_of_reply phase.AsksState t (reply.Recovery x) = on_state t x
wanted_of_reply (phase.AsksSecure k n) t (reply.Secure x) = on_secured t k n x
wanted_of_reply (phase.AsksComplete k n) t (reply.Complete x) = on_completed t k n x
wanted_of_reply (phase.AsksDrop k found) t (reply.DropActivity x) = on_dropped t k found x
wanted_of_reply phase.AsksClose t (reply.CloseLane x) = on_closed t x
wanted_of_reply (phase.AsksLast e) t x = Ends e
wanted_of_reply _ t x = Never

abbrev pub wanted : State → Event → Wanted
wanted t event.Go = wanted_of_go t.phase t
wanted t (event.Unit u) = within t (wanted_of_unit t.phase t u)
wanted t event.BadUnit = within t (Aborts 4)
wanted t (event.Reply x) = wanted_of_reply t.phase t x
wanted t event.Over = wanted_of_over t.phase
