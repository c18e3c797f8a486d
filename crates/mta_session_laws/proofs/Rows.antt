-- What is wanted, row by row: each way that a session may go at an event, with what holds there. A law on what is
-- wanted has a clause for each row of which it says something of its own, and one for all others.
use Rattle.std.proofs.Common.{◌≡◌, ℕ, ◌-◌, ◌&&◌, ◌||◌, ◌==◌, not, nat_lt, if◌then◌else◌, Bool, true, false, Option, Some}
use Rattle.std.proofs.Common.{None, Result, Ok, Err, List, [], refl}
use Rattle.std.specs.Str.{bytes_eq}
use Rattle.mta_ber.specs.declared.fault.Fault.{Fault}
use Rattle.mta_ber.specs.declared.memory.Memory.{Memory as NoMemory}
use Rattle.mta_rtse.specs.declared.types.Request.{Request}
use Rattle.mta_rtse.specs.declared.types.Request.TheVariants as request
use Rattle.mta_rtse.specs.declared.types.Answer.{Answer}
use Rattle.mta_rtse.specs.declared.types.Answer.TheVariants as answer
use Rattle.mta_records.specs.Outgoing.{Carried}
use Rattle.mta_records.specs.Reference.{Identifier}
use Rattle.mta_records.specs.declared.fault.CompleteFault.{CompleteFault}
use Rattle.mta_records.specs.declared.fault.CompleteFault.TheVariants as piece
use Rattle.mta_records.specs.declared.fault.StepFault.{StepFault}
use Rattle.mta_records.specs.declared.fault.StepFault.TheVariants as fault
use Rattle.mta_records.specs.declared.lane.Batch.{Batch}
use Rattle.mta_records.specs.declared.lane.LaneRole.TheVariants as role
use Rattle.mta_records.specs.declared.lane.LaneValues.{LaneValues}
use Rattle.mta_units.specs.declared.unit.OpenUnit.{OpenUnit}
use Rattle.mta_units.specs.declared.unit.Unit.{Unit as AnyUnit}
use Rattle.mta_units.specs.declared.unit.Unit.TheVariants as unit
use Rattle.mta_lane_send.specs.Half.{is_idle, is_ending, last_of}
use Rattle.mta_lane_send.specs.declared.state.SendState.{SendState}
use Rattle.mta_lane_recv.specs.declared.state.Last.{Last}
use Rattle.mta_transfer_rules.specs.Sending as s
use Rattle.mta_transfer_rules.specs.Sending.{SendEnd}
use Rattle.mta_transfer_rules.specs.Receiving as r
use Rattle.mta_transfer_rules.specs.Receiving.{RecvEnd}
use Rattle.mta_session.specs.declared.ask.Ask.TheVariants as ask
use Rattle.mta_session.specs.declared.ask.Reply.{Reply}
use Rattle.mta_session.specs.declared.ask.Reply.TheVariants as reply
use Rattle.mta_session.specs.declared.event.Event.{Event}
use Rattle.mta_session.specs.declared.event.Event.TheVariants as event
use Rattle.mta_session.specs.declared.event.InitiatorPlan.{InitiatorPlan}
use Rattle.mta_session.specs.declared.event.SessionEnd.{SessionEnd}
use Rattle.mta_session.specs.declared.event.SessionEnd.TheVariants as end
use Rattle.mta_session.specs.declared.event.Side.{Side}
use Rattle.mta_session.specs.declared.event.Side.TheVariants as side
use Rattle.mta_session.specs.declared.peer.Peer.{Peer}
use Rattle.mta_session.specs.declared.phase.Found.{Found}
use Rattle.mta_session.specs.declared.phase.OwnStep.{OwnStep}
use Rattle.mta_session.specs.declared.phase.OwnStep.TheVariants as own
use Rattle.mta_session.specs.declared.phase.Phase.{Phase}
use Rattle.mta_session.specs.declared.phase.Phase.TheVariants as phase
use Rattle.mta_session.specs.Follows.{Of_neither, part_of_abort}
use Rattle.mta_session.specs.Receiving.{is_free, taken}
use Rattle.mta_session.specs.Sending.{called, heard, is_discard_put}
use Rattle.mta_session.specs.State.{State, in_phase, is_initiator, let_go, with_values}
use Rattle.mta_session.specs.Wanted.{Wanted, Aborts, Rejects, Ends, Puts, Asks, Reads, Goes_on, Excepts, Never, abort_of}
use Rattle.mta_session.specs.Wanted.{after_accept, after_step, answer_for, answers_link, as_holder, as_listener, ask_of}
use Rattle.mta_session.specs.Wanted.{asks_batch, asks_due, asks_lane, asks_spare, begins, closed, closes_rejected}
use Rattle.mta_session.specs.Wanted.{cut_short, found_of, gives, goes_on_if, is_given_up}
use Rattle.mta_session.specs.Wanted.{is_refused_value, is_same_reference, is_still, makes_or, new_lane, on_abort}
use Rattle.mta_session.specs.Wanted.{on_accept, on_answer_by, on_batch, on_bind, on_close, on_close_ack}
use Rattle.mta_session.specs.Wanted.{on_completed, on_dropped, on_lane_values, on_new_lane}
use Rattle.mta_session.specs.Wanted.{on_open, on_peer, on_receiving, on_reject, on_request}
use Rattle.mta_session.specs.Wanted.{on_resumed, on_room, on_secured, on_stands, on_start, on_state, on_step}
use Rattle.mta_session.specs.Wanted.{on_still_idle, on_unit, on_values, opens, puts_accept, puts_please, restored, starts}
use Rattle.mta_session.specs.Wanted.{takes, wanted_of_go, wanted_of_over, wanted_of_reply, wanted_of_unit, with_lane}
use Rattle.mta_session.specs.Wanted.{with_line, with_received}
use Rattle.mta_session_laws.specs.Turning.{is_open}
use Rattle.mta_session_laws.proofs.Opening.{wanted_in}

-- the reply to the question for a step
abbrev pub reply_to : OwnStep → Result (Unit {0}) StepFault → Reply
reply_to (own.Confirm n) x = reply.Confirm x
reply_to own.Ending x = reply.Ending x
reply_to own.Sent x = reply.Sent x
reply_to own.Dropped x = reply.Dropped x
reply_to (own.Refused k) x = reply.Refused x

abbrev pub is_abort : AnyUnit → Bool
is_abort (unit.Abort reason) = true
is_abort x = false

-- where Abort is taken
abbrev pub hears_abort : Phase → Bool
hears_abort phase.ReadsAnswer = true
hears_abort phase.ReadsCloseAck = true
hears_abort phase.Reads = true
hears_abort p = false

pub data Row (t : State) : Phase → Event → Wanted → Type 0 where
  -- It halts -----------------------------------------------------------------------------------
  aborted : {p : Phase} {e : Event} (reason : ℕ) → part_of_abort reason ≡ Of_neither → Row t p e (Aborts reason)
  rejected : {p : Phase} {e : Event} (reason : ℕ) → is_open p ≡ false → Row t p e (Rejects reason)
  ended : {p : Phase} {e : Event} (y : SessionEnd) → Row t p e (Ends y)
  nothing : {p : Phase} {e : Event} → Row t p e Never
  -- It goes on ---------------------------------------------------------------------------------
  accepted : t.twa ≡ false → Row t phase.PutsAccept event.Go (Goes_on t)
  put_whole : Row t phase.Puts event.Go (Goes_on t)
  started_again : (c w : ℕ) (a : Answer) → t.agreed ≡ true
      → Row t phase.ReadsAnswer (event.Unit (unit.Accept c w a)) (starts t)
  started_new : (v : Unit {0}) → Row t phase.AsksAgree (event.Reply (reply.LaneAgree (Ok v))) (starts t)
  pleased : (n : ℕ) → t.ours ≡ true → t.twa ≡ true → Row t phase.Reads (event.Unit (unit.Please n))
      (Goes_on (record t { please = t.please || is_initiator t.side }))
  passed : (x : AnyUnit) (f : SendEnd) → t.ours ≡ true → called t.send x ≡ None → heard t.send x ≡ Some f
      → is_abort x ≡ false → Row t phase.Reads (event.Unit x) (Goes_on (record t { send = f }))
  turn_got : t.ours ≡ false → (t.twa && is_free t.recv.stage) ≡ true
      → Row t phase.Reads (event.Unit unit.Give) (Goes_on (record t { ours = true; please = false }))
  close_passed : t.ours ≡ false → t.please ≡ true → Row t phase.Reads (event.Unit unit.Close) (Goes_on t)
  please_passed : (n : ℕ) → t.ours ≡ false → Row t phase.Reads (event.Unit (unit.Please n)) (Goes_on t)
  piece_taken : (x : AnyUnit) (f : RecvEnd) → t.ours ≡ false → taken t.checkpoint t.recv x ≡ Some f
      → is_abort x ≡ false → Row t phase.Reads (event.Unit x) (Goes_on (record t { recv = f }))
  none_due : Row t phase.AsksDue (event.Reply (reply.BatchFor (Ok None))) (Goes_on t)
  batch_started : (o : Carried) → Row t phase.AsksStart (event.Reply (reply.Start (Ok o)))
      (Goes_on (record t { send = s.made t.send (s.Start o.octets) }))
  step_made : (step : OwnStep) (v : Unit {0}) → Row t (phase.AsksStep step) (event.Reply (reply_to step (Ok v)))
      (Goes_on (record t { send = after_step t.send step }))
  gave_up : (told : SendState) → is_given_up t told ≡ true
      → Row t phase.AsksState (event.Reply (reply.Recovery (Some told)))
      (Goes_on (record t { send = s.made t.send s.Abandon }))
  secured : (k n : ℕ) (v : Unit {0}) → Row t (phase.AsksSecure k n) (event.Reply (reply.Secure (Ok v)))
      (Goes_on (record t { recv = r.made t.recv (r.Secure k n []) }))
  secured_bad : (k n : ℕ) (f : Fault) → Row t (phase.AsksSecure k n) (event.Reply (reply.Secure (Err (piece.Bad f))))
      (Excepts (record t { recv = r.found t.recv k }) (found_of f))
  completed : (k n item : ℕ) → Row t (phase.AsksComplete k n) (event.Reply (reply.Complete (Ok item)))
      (Goes_on (record t { recv = r.made t.recv (r.Complete k n []) }))
  completed_bad : (k n : ℕ) (f : Fault)
      → Row t (phase.AsksComplete k n) (event.Reply (reply.Complete (Err (piece.Bad f))))
      (Excepts (record t { recv = r.found t.recv k }) (found_of f))
  dropped : (k : ℕ) (v : Unit {0}) → Row t (phase.AsksDrop k None) (event.Reply (reply.DropActivity (Ok v)))
      (Goes_on (record t { recv = r.made t.recv (r.Drop k) }))
  dropped_bad : (k : ℕ) (y : Found) (v : Unit {0})
      → Row t (phase.AsksDrop k (Some y)) (event.Reply (reply.DropActivity (Ok v)))
      (Excepts (record t { recv = r.made t.recv (r.Drop k) }) y)
  -- It asks, puts or reads before the session is open -------------------------------------------
  lane_looked : (i : InitiatorPlan) → t.side ≡ side.Initiator i → i.recovering ≡ true
      → Row t phase.Begin event.Go (Asks (ask.Values t.lane) (in_phase t phase.AsksValues))
  link_opened : (i : InitiatorPlan) → t.side ≡ side.Initiator i → i.recovering ≡ false
      → Row t phase.Begin event.Go (opens i t)
  awaits_open : (own : List ℕ) → t.side ≡ side.Responder own
      → Row t phase.Begin event.Go (Reads (in_phase t phase.ReadsOpen))
  awaits_answer : Row t phase.PutsOpen event.Go (Reads (in_phase t phase.ReadsAnswer))
  accepted_idle : t.twa ≡ true → is_idle t.send.state ≡ true → Row t phase.PutsAccept event.Go (asks_due t)
  accepted_busy : t.twa ≡ true → is_idle t.send.state ≡ false → Row t phase.PutsAccept event.Go (puts_please t)
  got_open : (o : OpenUnit) → Row t phase.ReadsOpen (event.Unit (unit.Open o))
      (Asks (ask.Peer o.name) (record t { phase = phase.AsksPeer; opened = Some o }))
  agrees : (c w : ℕ) (a : Answer) → t.agreed ≡ false → Row t phase.ReadsAnswer (event.Unit (unit.Accept c w a))
      (Asks (ask.LaneAgree t.lane t.generation c w) (in_phase (with_values t c w) phase.AsksAgree))
  reject_denied : (reason : ℕ) → ((reason == 1) && not (is_idle t.send.state)) ≡ true
      → Row t phase.ReadsAnswer (event.Unit (unit.Reject reason))
      (Asks (ask.Denied t.lane t.generation (last_of t.send.state)) (in_phase (let_go t) phase.AsksDenied))
  reject_closed : (reason : ℕ) → Row t phase.ReadsAnswer (event.Unit (unit.Reject reason)) (closes_rejected t reason)
  denied_closed : (v : Unit {0}) → Row t phase.AsksDenied (event.Reply (reply.Denied (Ok v))) (closes_rejected t 1)
  knows_peer : (o : OpenUnit) (l : Peer) → t.opened ≡ Some o
      → Row t phase.AsksPeer (event.Reply (reply.Peer (Ok (Some l))))
      (Asks (ask.LaneOf role.Responder o.name (Some o.reference)) (in_phase (with_line t l) phase.AsksStands))
  recovers : (o : OpenUnit) (l : Peer) (reference : Identifier) → t.opened ≡ Some o
      → Row t phase.AsksPeer (event.Reply (reply.Peer (Ok (Some l))))
      (Asks (ask.LaneOf role.Responder o.name (Some reference)) (in_phase (with_line t l) phase.AsksOldLane))
  lane_new : (o : OpenUnit) (l : Peer) → t.opened ≡ Some o → t.line ≡ Some l
      → Row t phase.AsksStands (event.Reply (reply.LaneOf None))
      (Asks (new_lane o l) (in_phase t (phase.AsksNewLane false)))
  lane_again : (o : OpenUnit) (l : Peer) (x : Result (Unit {0}) StepFault) → t.opened ≡ Some o → t.line ≡ Some l
      → Row t phase.AsksRoom (event.Reply (reply.CloseLane x))
      (Asks (new_lane o l) (in_phase t (phase.AsksNewLane true)))
  lane_accepted : (again : Bool) (lane : ℕ) (a : Answer)
      → Row t (phase.AsksNewLane again) (event.Reply (reply.LaneOpen (Ok lane)))
      (puts_accept (with_lane t t.opened t.line lane) (Some a))
  lane_busy : (n : ℕ) → Row t (phase.AsksNewLane false) (event.Reply (reply.LaneOpen (Err (fault.BusyLanes n))))
      (asks_spare t false)
  spare_found : (x : ℕ × ℕ) → Row t phase.AsksSpare (event.Reply (reply.SpareLane (Some x)))
      (Asks (ask.CloseLane x.0 x.1) (in_phase t phase.AsksRoom))
  knows_lane : (lane : ℕ) → Row t phase.AsksOldLane (event.Reply (reply.LaneOf (Some lane)))
      (Asks (ask.Bind lane) (record t { phase = phase.AsksBind; lane = lane }))
  lane_bound : (g : ℕ) → Row t phase.AsksBind (event.Reply (reply.Bind (Ok g)))
      (Asks (ask.Values t.lane) (record t { phase = phase.AsksValues; generation = g }))
  told_values : (v : LaneValues) → Row t phase.AsksValues (event.Reply (reply.Values (Some v)))
      (on_lane_values t (Some v))
  told_state : (st : SendState) → Row t phase.AsksRecovery (event.Reply (reply.Recovery (Some st)))
      (Asks (ask.Receiving t.lane) (in_phase t (phase.AsksReceiving st)))
  idle_opened : (st : SendState) (x : ℕ × Last) (i : InitiatorPlan) → is_idle st ≡ true → t.side ≡ side.Initiator i
      → Row t (phase.AsksReceiving st) (event.Reply (reply.Receiving (Some x)))
      (opens i (restored (with_received t x) st []))
  idle_accepted : (st : SendState) (x : ℕ × Last) (a : Answer) → is_idle st ≡ true
      → Row t (phase.AsksReceiving st) (event.Reply (reply.Receiving (Some x)))
      (puts_accept (restored (with_received t x) st []) (Some a))
  resumes : (st : SendState) (x : ℕ × Last) → is_idle st ≡ false
      → Row t (phase.AsksReceiving st) (event.Reply (reply.Receiving (Some x)))
      (Asks (ask.Resumed t.lane) (in_phase (with_received t x) (phase.AsksResumed st)))
  resumed_opened : (st : SendState) (o : Carried) (i : InitiatorPlan) → t.side ≡ side.Initiator i
      → Row t (phase.AsksResumed st) (event.Reply (reply.Resumed (Ok (Some o)))) (opens i (restored t st o.octets))
  resumed_accepted : (st : SendState) (o : Carried) (a : Answer)
      → Row t (phase.AsksResumed st) (event.Reply (reply.Resumed (Ok (Some o))))
      (puts_accept (restored t st o.octets) (Some a))
  -- and once it is open -------------------------------------------------------------------------
  abort_denied : {p : Phase} (reason : ℕ) → hears_abort p ≡ true → (t.left == 0) ≡ false
      → ((reason == 2) && not (is_idle t.send.state)) ≡ true → Row t p (event.Unit (unit.Abort reason))
      (Asks (ask.Denied t.lane t.generation (last_of t.send.state))
      (in_phase (let_go t) (phase.AsksLast (end.PeerAborted reason))))
  abort_sent : {p : Phase} (reason : ℕ) → hears_abort p ≡ true → (t.left == 0) ≡ false
      → ((reason == 7) && is_ending t.send.state (last_of t.send.state)
      && is_discard_put t.send.stage (last_of t.send.state)) ≡ true → Row t p (event.Unit (unit.Abort reason))
      (Asks (ask.Sent t.lane t.generation (last_of t.send.state))
      (in_phase (let_go t) (phase.AsksLast (end.PeerAborted reason))))
  step_called : (x : AnyUnit) (step : OwnStep) → t.ours ≡ true → called t.send x ≡ Some step
      → is_abort x ≡ false → Row t phase.Reads (event.Unit x) (Asks (ask_of t step) (in_phase t (phase.AsksStep step)))
  close_pleased : t.ours ≡ false → (t.twa && not (is_idle t.send.state)) ≡ true
      → Row t phase.Reads (event.Unit unit.Close) (puts_please t)
  close_got : t.ours ≡ false → (not (is_initiator t.side) && is_free t.recv.stage) ≡ true → t.please ≡ false
      → Row t phase.Reads (event.Unit unit.Close)
      (Asks (ask.CloseLane t.lane t.generation) (in_phase (let_go t) phase.AsksClose))
  got_ack : Row t phase.ReadsCloseAck (event.Unit unit.CloseAck)
      (Asks (ask.CloseLane t.lane t.generation) (in_phase (let_go t) phase.AsksClose))
  gives_pleased : (n : ℕ) → t.twa ≡ true → Row t phase.ReadsCloseAck (event.Unit (unit.Please n)) (gives t)
  awaits_ack : Row t phase.PutsClose event.Go (Reads (in_phase t phase.ReadsCloseAck))
  close_acked : (own : List ℕ) (v : Unit {0}) → t.side ≡ side.Responder own
      → Row t phase.AsksClose (event.Reply (reply.CloseLane (Ok v)))
      (Puts unit.CloseAck (in_phase (let_go t) (phase.PutsLast end.Closed)))
  one_due : (b : Batch) → Row t phase.AsksDue (event.Reply (reply.BatchFor (Ok (Some b)))) (puts_please t)
  batch_found : (b : Batch) → Row t phase.AsksBatch (event.Reply (reply.BatchFor (Ok (Some b))))
      (Asks (ask.Start t.lane t.generation b) (in_phase t phase.AsksStart))
  none_closes : (is_initiator t.side && not (t.please && t.twa)) ≡ true
      → Row t phase.AsksBatch (event.Reply (reply.BatchFor (Ok None))) (Puts unit.Close (in_phase t phase.PutsClose))
  none_gives : (is_initiator t.side && not (t.please && t.twa)) ≡ false
      → Row t phase.AsksBatch (event.Reply (reply.BatchFor (Ok None))) (gives t)
  batch_unstarted : Row t phase.AsksStart (event.Reply (reply.Start (Err fault.Unexpected)))
      (Asks (ask.Recovery t.lane) (in_phase t phase.AsksStillIdle))
  tries_again : (told : SendState) → is_still t.send.state told ≡ true → nat_lt 1 t.left ≡ true
      → Row t phase.AsksStillIdle (event.Reply (reply.Recovery (Some told)))
      (asks_batch (record t { left = t.left - 1 }))
  step_unmade : (step : OwnStep) → Row t (phase.AsksStep step) (event.Reply (reply_to step (Err fault.Unexpected)))
      (Asks (ask.Recovery t.lane) (in_phase t phase.AsksState))

-- by a test, and by a refusal
pub if_row : {t : State} {p : Phase} {e : Event} {w v : Wanted} (b : Bool) → (b ≡ true → Row t p e w)
    → (b ≡ false → Row t p e v) → Row t p e (if b then w else v)
if_row true f g = f refl
if_row false f g = g refl

pub refusal_says_nothing : (f : StepFault) → part_of_abort (abort_of f) ≡ Of_neither
refusal_says_nothing (fault.Full size need) = refl
refusal_says_nothing any0 = refl

failed : {t : State} {p : Phase} {e : Event} (f : StepFault) → Row t p e (Aborts (abort_of f))
failed f = aborted (abort_of f) (refusal_says_nothing f)

-- No reply ------------------------------------------------------------------------------------

begin_row : (t : State) (x : Side) → t.side ≡ x → Row t phase.Begin event.Go (begins x t)
begin_row t (side.Initiator i) q = if_row i.recovering (λ c. lane_looked i q c) (λ c. link_opened i q c)
begin_row t (side.Responder own) q = awaits_open own q

accepted_row : (t : State) → Row t phase.PutsAccept event.Go (after_accept t)
accepted_row t = if_row t.twa
    (λ a. if_row (is_idle t.send.state) (λ c. accepted_idle a c) (λ c. accepted_busy a c)) (λ a. accepted a)

go_row : (p : Phase) (t : State) → Row t p event.Go (wanted_of_go p t)
go_row phase.Begin t = begin_row t t.side refl
go_row phase.PutsOpen t = awaits_answer
go_row phase.PutsAccept t = accepted_row t
go_row phase.Puts t = put_whole
go_row phase.PutsClose t = awaits_ack
go_row (phase.PutsLast y) t = ended y
go_row p t = nothing

over_row : (p : Phase) (t : State) → Row t p event.Over (wanted_of_over p)
over_row (phase.PutsLast y) t = ended (cut_short y)
over_row p t = ended end.Broken

abort_row : (p : Phase) (t : State) (reason : ℕ) → hears_abort p ≡ true → (t.left == 0) ≡ false
    → Row t p (event.Unit (unit.Abort reason)) (on_abort t reason)
abort_row p t reason h l =
    if_row ((reason == 2) && not (is_idle t.send.state)) (λ b. abort_denied reason h l b)
    (λ b. if_row ((reason == 7) && is_ending t.send.state (last_of t.send.state)
    && is_discard_put t.send.stage (last_of t.send.state)) (λ c. abort_sent reason h l c)
    (λ c. ended (end.PeerAborted reason)))

open_row : (t : State) (x : AnyUnit) → Row t phase.ReadsOpen (event.Unit x) (on_open t x)
open_row t (unit.Open o) = got_open o
open_row t (unit.Abort reason) = ended (end.PeerAborted reason)
open_row t x = aborted 4 refl

values_row : (t : State) (c w : ℕ) (a : Answer)
    → Row t phase.ReadsAnswer (event.Unit (unit.Accept c w a)) (on_values t c w)
values_row t c w a = if_row (is_refused_value t c w) (λ b. aborted 1 refl)
    (λ b. if_row t.agreed (λ g. started_again c w a g) (λ g. agrees c w a g))

accept_row : (i : InitiatorPlan) (t : State) (c w : ℕ) (a : Answer)
    → Row t phase.ReadsAnswer (event.Unit (unit.Accept c w a)) (on_accept i t c w a)
accept_row i t c w (answer.Bind name password) = if_row i.recovering (λ b. aborted 4 refl)
    (λ b. if_row (bytes_eq name i.peer && bytes_eq password i.expected_password)
    (λ d. values_row t c w (answer.Bind name password)) (λ d. aborted 5 refl))
accept_row i t c w (answer.Recover reference) = if_row (i.recovering && is_same_reference reference i.reference)
    (λ b. values_row t c w (answer.Recover reference)) (λ b. aborted 4 refl)

reject_row : (i : InitiatorPlan) (t : State) (reason : ℕ)
    → Row t phase.ReadsAnswer (event.Unit (unit.Reject reason)) (on_reject i t reason)
reject_row i t reason = if_row ((reason == 1) && not (is_idle t.send.state)) (λ b. reject_denied reason b)
    (λ b. if_row ((reason == 1) || not i.recovering) (λ c. reject_closed reason) (λ c. ended (end.Rejected reason)))

answer_row : (x : Side) (t : State) (y : AnyUnit) → (t.left == 0) ≡ false
    → Row t phase.ReadsAnswer (event.Unit y) (on_answer_by x t y)
answer_row (side.Initiator i) t (unit.Accept c w a) l = accept_row i t c w a
answer_row (side.Initiator i) t (unit.Reject reason) l = reject_row i t reason
answer_row (side.Initiator i) t (unit.Abort reason) l = abort_row phase.ReadsAnswer t reason refl l
answer_row x t y l = aborted 4 refl

passed_row : (t : State) (x : AnyUnit) (f : Option SendEnd) → t.ours ≡ true → called t.send x ≡ None
    → heard t.send x ≡ f → is_abort x ≡ false → Row t phase.Reads (event.Unit x) (goes_on_if t f)
passed_row t x (Some f) o c q n = passed x f o c q n
passed_row t x None o c q n = aborted 4 refl

makes_row : (t : State) (x : AnyUnit) (f : Option OwnStep) → t.ours ≡ true → called t.send x ≡ f
    → is_abort x ≡ false → Row t phase.Reads (event.Unit x) (makes_or t x f)
makes_row t x (Some step) o q n = step_called x step o q n
makes_row t x None o q n = passed_row t x (heard t.send x) o q refl n

holder_row : (t : State) (x : AnyUnit) → t.ours ≡ true → is_abort x ≡ false → Row t phase.Reads (event.Unit x) (as_holder t x)
holder_row t (unit.Please n) o a = if_row t.twa (λ b. pleased n o b) (λ b. aborted 4 refl)
holder_row t x o a = makes_row t x (called t.send x) o refl a

close_row : (t : State) → t.ours ≡ false → (not (is_initiator t.side) && is_free t.recv.stage) ≡ true
    → Row t phase.Reads (event.Unit unit.Close) (on_close t)
close_row t o f = if_row t.please (λ b. close_passed o b)
    (λ b. if_row (t.twa && not (is_idle t.send.state)) (λ c. close_pleased o c) (λ c. close_got o f b))

took_row : (t : State) (x : AnyUnit) (f : Option RecvEnd) → t.ours ≡ false → taken t.checkpoint t.recv x ≡ f
    → is_abort x ≡ false → Row t phase.Reads (event.Unit x) (takes t f)
took_row t x (Some f) o q n = piece_taken x f o q n
took_row t x None o q n = aborted 4 refl

listener_row : (t : State) (x : AnyUnit) → t.ours ≡ false → is_abort x ≡ false → Row t phase.Reads (event.Unit x) (as_listener t x)
listener_row t unit.Give o a = if_row (t.twa && is_free t.recv.stage) (λ b. turn_got o b) (λ b. aborted 4 refl)
listener_row t unit.Close o a = if_row (not (is_initiator t.side) && is_free t.recv.stage) (λ b. close_row t o b)
    (λ b. aborted 4 refl)
listener_row t (unit.Please n) o a = if_row t.twa (λ b. please_passed n o) (λ b. aborted 4 refl)
listener_row t x o a = took_row t x (taken t.checkpoint t.recv x) o refl a

reads_row : (t : State) (x : AnyUnit) → (t.left == 0) ≡ false → Row t phase.Reads (event.Unit x) (on_unit t x)
reads_row t (unit.Abort reason) l = abort_row phase.Reads t reason refl l
reads_row t x l = if_row t.ours (λ o. holder_row t x o refl) (λ o. listener_row t x o refl)

ack_row : (t : State) (x : AnyUnit) → (t.left == 0) ≡ false → Row t phase.ReadsCloseAck (event.Unit x) (on_close_ack t x)
ack_row t unit.CloseAck l = got_ack
ack_row t (unit.Please n) l = if_row t.twa (λ a. gives_pleased n a) (λ a. aborted 4 refl)
ack_row t (unit.Abort reason) l = abort_row phase.ReadsCloseAck t reason refl l
ack_row t x l = aborted 4 refl

unit_row : (p : Phase) (t : State) (x : AnyUnit) → (t.left == 0) ≡ false → Row t p (event.Unit x) (wanted_of_unit p t x)
unit_row phase.ReadsOpen t x l = open_row t x
unit_row phase.ReadsAnswer t x l = answer_row t.side t x l
unit_row phase.ReadsCloseAck t x l = ack_row t x l
unit_row phase.Reads t x l = reads_row t x l
unit_row p t x l = nothing

-- A reply before the session is open ----------------------------------------------------------

request_row : (t : State) (o : OpenUnit) (l : Peer) (x : Request) → t.opened ≡ Some o
    → Row t phase.AsksPeer (event.Reply (reply.Peer (Ok (Some l)))) (on_request t o l x)
request_row t o l request.Null q = rejected 2 refl
request_row t o l (request.Bind name password) q =
    if_row (bytes_eq name l.name && bytes_eq password l.expected_password) (λ b. knows_peer o l q)
    (λ b. rejected 2 refl)
request_row t o l (request.Recover reference) q = recovers o l reference q

peer_row : (t : State) (o : Option OpenUnit) (x : Result (Option Peer) NoMemory) → t.opened ≡ o
    → Row t phase.AsksPeer (event.Reply (reply.Peer x)) (on_peer t o x)
peer_row t (Some o) (Ok (Some l)) q = request_row t o l o.request q
peer_row t (Some o) (Ok None) q = rejected 2 refl
peer_row t (Some o) (Err m) q = aborted 0 refl
peer_row t None (Ok x) q = nothing
peer_row t None (Err m) q = aborted 0 refl

stands_row : (t : State) (o : Option OpenUnit) (l : Option Peer) (x : Option ℕ) → t.opened ≡ o → t.line ≡ l
    → Row t phase.AsksStands (event.Reply (reply.LaneOf x)) (on_stands t o l x)
stands_row t o l (Some lane) p q = rejected 2 refl
stands_row t (Some o) (Some l) None p q = if_row (o.twa && not l.twa) (λ b. rejected 3 refl) (λ b. lane_new o l p q)
stands_row t (Some o) None None p q = nothing
stands_row t None l None p q = nothing

new_row : (t : State) (again : Bool) (lane : ℕ) (a : Option Answer)
    → Row t (phase.AsksNewLane again) (event.Reply (reply.LaneOpen (Ok lane)))
    (puts_accept (with_lane t t.opened t.line lane) a)
new_row t again lane (Some a) = lane_accepted again lane a
new_row t again lane None = nothing

busy_row : (t : State) (again : Bool) (n : ℕ)
    → Row t (phase.AsksNewLane again) (event.Reply (reply.LaneOpen (Err (fault.BusyLanes n)))) (asks_spare t again)
busy_row t true n = rejected 0 refl
busy_row t false n = lane_busy n

new_lane_row : (t : State) (again : Bool) (x : Result ℕ StepFault)
    → Row t (phase.AsksNewLane again) (event.Reply (reply.LaneOpen x)) (on_new_lane t again x)
new_lane_row t again (Ok lane) =
    let v : State = with_lane t t.opened t.line lane in new_row t again lane (answer_for v.side v.opened v.line)
new_lane_row t again (Err (fault.BusyLanes n)) = busy_row t again n
new_lane_row t again (Err fault.Unexpected) = rejected 2 refl
new_lane_row t again (Err f) = failed f

again_row : (t : State) (o : Option OpenUnit) (l : Option Peer) (x : Result (Unit {0}) StepFault) → t.opened ≡ o
    → t.line ≡ l → Row t phase.AsksRoom (event.Reply (reply.CloseLane x)) (asks_lane t o l true)
again_row t (Some o) (Some l) x p q = lane_again o l x p q
again_row t (Some o) None x p q = nothing
again_row t None l x p q = nothing

room_row : (t : State) (x : Result (Unit {0}) StepFault)
    → Row t phase.AsksRoom (event.Reply (reply.CloseLane x)) (on_room t x)
room_row t (Ok y) = again_row t t.opened t.line (Ok y) refl refl
room_row t (Err (fault.NoLane n)) = again_row t t.opened t.line (Err (fault.NoLane n)) refl refl
room_row t (Err (fault.Fenced n)) = again_row t t.opened t.line (Err (fault.Fenced n)) refl refl
room_row t (Err fault.Unexpected) = again_row t t.opened t.line (Err fault.Unexpected) refl refl
room_row t (Err f) = failed f

bind_row : (t : State) (x : Result ℕ StepFault) → Row t phase.AsksBind (event.Reply (reply.Bind x)) (on_bind t x)
bind_row t (Ok g) = lane_bound g
bind_row t (Err (fault.NoLane n)) = rejected 1 refl
bind_row t (Err f) = failed f

idle_accept_row : (t : State) (st : SendState) (x : ℕ × Last) (a : Option Answer) → is_idle st ≡ true
    → Row t (phase.AsksReceiving st) (event.Reply (reply.Receiving (Some x)))
    (puts_accept (restored (with_received t x) st []) a)
idle_accept_row t st x (Some a) i = idle_accepted st x a i
idle_accept_row t st x None i = nothing

idle_row : (t : State) (st : SendState) (x : ℕ × Last) (y : Side) → t.side ≡ y → is_idle st ≡ true
    → Row t (phase.AsksReceiving st) (event.Reply (reply.Receiving (Some x)))
    (answers_link (restored (with_received t x) st []) y)
idle_row t st x (side.Initiator i) q j = idle_opened st x i j q
idle_row t st x (side.Responder own) q j = idle_accept_row t st x (answer_for t.side t.opened t.line) j

receiving_row : (t : State) (st : SendState) (x : Option (ℕ × Last))
    → Row t (phase.AsksReceiving st) (event.Reply (reply.Receiving x)) (on_receiving t st x)
receiving_row t st (Some x) = if_row (is_idle st) (λ i. idle_row t st x t.side refl i) (λ i. resumes st x i)
receiving_row t st None = nothing

resumed_accept_row : (t : State) (st : SendState) (o : Carried) (a : Option Answer)
    → Row t (phase.AsksResumed st) (event.Reply (reply.Resumed (Ok (Some o))))
    (puts_accept (restored t st o.octets) a)
resumed_accept_row t st o (Some a) = resumed_accepted st o a
resumed_accept_row t st o None = nothing

resumed_link_row : (t : State) (st : SendState) (o : Carried) (y : Side) → t.side ≡ y
    → Row t (phase.AsksResumed st) (event.Reply (reply.Resumed (Ok (Some o))))
    (answers_link (restored t st o.octets) y)
resumed_link_row t st o (side.Initiator i) q = resumed_opened st o i q
resumed_link_row t st o (side.Responder own) q = resumed_accept_row t st o (answer_for t.side t.opened t.line)

resumed_row : (t : State) (st : SendState) (x : Result (Option Carried) NoMemory)
    → Row t (phase.AsksResumed st) (event.Reply (reply.Resumed x)) (on_resumed t st x)
resumed_row t st (Ok (Some o)) = resumed_link_row t st o t.side refl
resumed_row t st (Ok None) = nothing
resumed_row t st (Err m) = aborted 0 refl

-- A reply once it is open ---------------------------------------------------------------------

batch_row : (t : State) (x : Result (Option Batch) NoMemory)
    → Row t phase.AsksBatch (event.Reply (reply.BatchFor x)) (on_batch t x)
batch_row t (Ok (Some b)) = batch_found b
batch_row t (Ok None) = if_row (is_initiator t.side && not (t.please && t.twa)) (λ c. none_closes c)
    (λ c. none_gives c)
batch_row t (Err m) = aborted 0 refl

start_row : (t : State) (x : Result Carried StepFault)
    → Row t phase.AsksStart (event.Reply (reply.Start x)) (on_start t x)
start_row t (Ok o) = batch_started o
start_row t (Err fault.Unexpected) = batch_unstarted
start_row t (Err f) = failed f

still_row : (t : State) (x : Option SendState)
    → Row t phase.AsksStillIdle (event.Reply (reply.Recovery x)) (on_still_idle t x)
still_row t (Some told) = if_row (is_still t.send.state told)
    (λ b. if_row (nat_lt 1 t.left) (λ c. tries_again told b c) (λ c. aborted 3 refl)) (λ b. aborted 4 refl)
still_row t None = aborted 4 refl

step_row : (t : State) (step : OwnStep) (x : Result (Unit {0}) StepFault)
    → Row t (phase.AsksStep step) (event.Reply (reply_to step x)) (on_step t step x)
step_row t step (Ok v) = step_made step v
step_row t step (Err fault.Unexpected) = step_unmade step
step_row t step (Err f) = failed f

state_row : (t : State) (x : Option SendState)
    → Row t phase.AsksState (event.Reply (reply.Recovery x)) (on_state t x)
state_row t (Some told) = if_row (is_given_up t told) (λ b. gave_up told b) (λ b. aborted 4 refl)
state_row t None = aborted 4 refl

secured_row : (t : State) (k n : ℕ) (x : Result (Unit {0}) CompleteFault)
    → Row t (phase.AsksSecure k n) (event.Reply (reply.Secure x)) (on_secured t k n x)
secured_row t k n (Ok v) = secured k n v
secured_row t k n (Err (piece.Bad f)) = secured_bad k n f
secured_row t k n (Err (piece.Step f)) = failed f

completed_row : (t : State) (k n : ℕ) (x : Result ℕ CompleteFault)
    → Row t (phase.AsksComplete k n) (event.Reply (reply.Complete x)) (on_completed t k n x)
completed_row t k n (Ok item) = completed k n item
completed_row t k n (Err (piece.Bad f)) = completed_bad k n f
completed_row t k n (Err (piece.Step f)) = failed f

dropped_row : (t : State) (k : ℕ) (y : Option Found) (x : Result (Unit {0}) StepFault)
    → Row t (phase.AsksDrop k y) (event.Reply (reply.DropActivity x)) (on_dropped t k y x)
dropped_row t k None (Ok v) = dropped k v
dropped_row t k (Some y) (Ok v) = dropped_bad k y v
dropped_row t k y (Err f) = failed f

acks_row : (t : State) (x : Side) (v : Unit {0}) → t.side ≡ x
    → Row t phase.AsksClose (event.Reply (reply.CloseLane (Ok v))) (closed t x)
acks_row t (side.Initiator i) v q = ended end.Closed
acks_row t (side.Responder own) v q = close_acked own v q

-- Any event -----------------------------------------------------------------------------------

reply_row : (p : Phase) (t : State) (x : Reply) → Row t p (event.Reply x) (wanted_of_reply p t x)
reply_row phase.AsksPeer t (reply.Peer x) = peer_row t t.opened x refl
reply_row phase.AsksStands t (reply.LaneOf x) = stands_row t t.opened t.line x refl refl
reply_row (phase.AsksNewLane again) t (reply.LaneOpen x) = new_lane_row t again x
reply_row phase.AsksSpare t (reply.SpareLane (Some x)) = spare_found x
reply_row phase.AsksSpare t (reply.SpareLane None) = rejected 0 refl
reply_row phase.AsksRoom t (reply.CloseLane x) = room_row t x
reply_row phase.AsksOldLane t (reply.LaneOf (Some lane)) = knows_lane lane
reply_row phase.AsksOldLane t (reply.LaneOf None) = rejected 1 refl
reply_row phase.AsksBind t (reply.Bind x) = bind_row t x
reply_row phase.AsksValues t (reply.Values (Some v)) = told_values v
reply_row phase.AsksValues t (reply.Values None) = nothing
reply_row phase.AsksRecovery t (reply.Recovery (Some st)) = told_state st
reply_row phase.AsksRecovery t (reply.Recovery None) = nothing
reply_row (phase.AsksReceiving st) t (reply.Receiving x) = receiving_row t st x
reply_row (phase.AsksResumed st) t (reply.Resumed x) = resumed_row t st x
reply_row phase.AsksAgree t (reply.LaneAgree (Ok v)) = started_new v
reply_row phase.AsksAgree t (reply.LaneAgree (Err f)) = failed f
reply_row phase.AsksDenied t (reply.Denied (Ok v)) = denied_closed v
reply_row phase.AsksDenied t (reply.Denied (Err f)) = ended (end.Rejected 1)
reply_row phase.AsksDue t (reply.BatchFor (Ok (Some b))) = one_due b
reply_row phase.AsksDue t (reply.BatchFor (Ok None)) = none_due
reply_row phase.AsksDue t (reply.BatchFor (Err m)) = aborted 0 refl
reply_row phase.AsksBatch t (reply.BatchFor x) = batch_row t x
reply_row phase.AsksStart t (reply.Start x) = start_row t x
reply_row phase.AsksStillIdle t (reply.Recovery x) = still_row t x
reply_row (phase.AsksStep (own.Confirm n)) t (reply.Confirm x) = step_row t (own.Confirm n) x
reply_row (phase.AsksStep own.Ending) t (reply.Ending x) = step_row t own.Ending x
reply_row (phase.AsksStep own.Sent) t (reply.Sent x) = step_row t own.Sent x
reply_row (phase.AsksStep own.Dropped) t (reply.Dropped x) = step_row t own.Dropped x
reply_row (phase.AsksStep (own.Refused k)) t (reply.Refused x) = step_row t (own.Refused k) x
reply_row phase.AsksState t (reply.Recovery x) = state_row t x
reply_row (phase.AsksSecure k n) t (reply.Secure x) = secured_row t k n x
reply_row (phase.AsksComplete k n) t (reply.Complete x) = completed_row t k n x
reply_row (phase.AsksDrop k y) t (reply.DropActivity x) = dropped_row t k y x
reply_row phase.AsksClose t (reply.CloseLane (Ok v)) = acks_row t t.side v refl
reply_row phase.AsksClose t (reply.CloseLane (Err f)) = failed f
reply_row (phase.AsksLast y) t x = ended y
reply_row p t x = nothing

pub row : (p : Phase) (t : State) (e : Event) → Row t p e (wanted_in p t e)
row p t event.Go = go_row p t
row p t (event.Unit x) = if_row (t.left == 0) (λ b. aborted 3 refl) (λ b. unit_row p t x b)
row p t event.BadUnit = if_row (t.left == 0) (λ b. aborted 3 refl) (λ b. aborted 4 refl)
row p t (event.Reply x) = reply_row p t x
row p t event.Over = over_row p t
