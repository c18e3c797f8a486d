-- Each end of a session has its cause: first what an event calls for, by phase, and then what is done for it.
use Rattle.std.proofs.Common.{◌≡◌, ◌⊎◌, inl, inr, ℕ, ◌&&◌, ◌==◌, not, nat_lt, if◌then◌else◌, Bool, true, false, Option}
use Rattle.std.proofs.Common.{Some, None, Result, Ok, Err, [], refl, sym, subst, arith}
use Rattle.std.proofs.lemmas.Bool.Decides.{nat_tests}
use Rattle.std.specs.Str.{bytes_eq}
use Rattle.mta_ber.specs.declared.memory.Memory.{Memory as NoMemory}
use Rattle.mta_lane_send.specs.Half.{is_idle}
use Rattle.mta_rtse.specs.declared.types.Request.{Request}
use Rattle.mta_rtse.specs.declared.types.Request.TheVariants as request
use Rattle.mta_rtse.specs.declared.types.Answer.{Answer}
use Rattle.mta_units.specs.declared.unit.OpenUnit.{OpenUnit}
use Rattle.mta_transfer_rules.specs.Units as u
use Rattle.mta_transfer_rules.specs.Receiving as r
use Rattle.mta_transfer_rules.specs.Receiving.{RecvEnd}
use Rattle.mta_records.specs.declared.fault.StepFault.{StepFault}
use Rattle.mta_records.specs.declared.fault.StepFault.TheVariants as fault
use Rattle.mta_records.specs.declared.fault.CompleteFault.TheVariants as piece
use Rattle.mta_session.specs.declared.ask.Reply.{Reply}
use Rattle.mta_session.specs.declared.ask.Reply.TheVariants as reply
use Rattle.mta_session.specs.declared.event.Event.{Event}
use Rattle.mta_session.specs.declared.event.Event.TheVariants as event
use Rattle.mta_session.specs.declared.event.Side.{Side}
use Rattle.mta_session.specs.declared.event.Side.TheVariants as side
use Rattle.mta_session.specs.declared.event.SessionEnd.{SessionEnd}
use Rattle.mta_session.specs.declared.event.SessionEnd.TheVariants as end
use Rattle.mta_session.specs.declared.peer.Peer.{Peer}
use Rattle.mta_session.specs.declared.phase.Phase.{Phase}
use Rattle.mta_session.specs.declared.phase.Phase.TheVariants as phase
use Rattle.mta_session.specs.declared.phase.OwnStep.{OwnStep}
use Rattle.mta_session.specs.declared.phase.OwnStep.TheVariants as own
use Rattle.mta_session.specs.declared.phase.Found.{Found}
use Rattle.mta_session.specs.State.{State, is_initiator}
use Rattle.mta_session.specs.Wanted.{Wanted, Aborts, Rejects, Ends, Puts, Asks, Reads, Goes_on, Excepts, Never}
use Rattle.mta_session.specs.Wanted.{wanted_of_reply, on_request, on_peer, asks_lane, on_stands, puts_accept, with_lane}
use Rattle.mta_session.specs.Wanted.{restored, with_received, on_new_lane, on_room, answers_link, on_step, closed}
use Rattle.mta_session.specs.Wanted.{is_still, is_given_up, goes_on_with}
use Rattle.mta_session.specs.Fits.{FitsAt}
use Rattle.mta_session_laws.specs.Causes.{end_of, refusal, refused_in, IsOtherState, Takes, AbortCause, Step_refused}
use Rattle.mta_session_laws.specs.Causes.{Look_failed, Too_many, Other_state, IsNotLetIn, RejectCause, No_room}
use Rattle.mta_session_laws.specs.Causes.{Busy_again, No_lane, Not_bound, No_line, Not_let_in, Reference_stands}
use Rattle.mta_session_laws.specs.Causes.{Not_opened, One_way_alone, EndCause}

abbrev pub NeverAborts : RecvEnd → Type 0
NeverAborts f = (r.MayPut f u.Completed → ⊥) × (r.MayPut f u.Unrecognized → ⊥)

-- each end to which this leads has its cause
abbrev pub Leads : State → Event → Wanted → Type 0
Leads t e (Aborts reason) = AbortCause t e reason
Leads t e (Rejects reason) = RejectCause t e reason
Leads t e (Ends x) = EndCause t e x
Leads t e (Puts x v) = (y : SessionEnd) → end_of v.phase ≡ Some y → EndCause t e y
Leads t e (Asks x v) = (y : SessionEnd) → end_of v.phase ≡ Some y → EndCause t e y
Leads t e (Reads v) = (y : SessionEnd) → end_of v.phase ≡ Some y → EndCause t e y
Leads t e (Goes_on v) = Takes t e v.recv ⊎ NeverAborts v.recv
Leads t e (Excepts v f) = Unit {0}
Leads t e Never = Unit {0}

pub none_some : (y : SessionEnd) → ◌≡◌ {A = Option SessionEnd} None (Some y) → ⊥
none_some y i = cc

pub some_none : (y : SessionEnd) → ◌≡◌ {A = Option SessionEnd} (Some y) None → ⊥
some_none y i = cc

pub never : false ≡ true → ⊥
never i = cc

pub quiet : (t : State) (e : Event) (y : SessionEnd) → ◌≡◌ {A = Option SessionEnd} None (Some y) → EndCause t e y
quiet t e y i = absurd (none_some y i)

pub ends_at : (t : State) (e : Event) (x : SessionEnd) → EndCause t e x → (y : SessionEnd)
    → ◌≡◌ {A = Option SessionEnd} (Some x) (Some y) → EndCause t e y
ends_at t e x c y i =
    let same : x ≡ y = cc in
    subst (λ z. EndCause t e z) same c

pub if_leads : (t : State) (e : Event) (b : Bool) (w v : Wanted) → (b ≡ true → Leads t e w) → (b ≡ false → Leads t e v)
    → Leads t e (if b then w else v)
if_leads t e true w v p q = p refl
if_leads t e false w v p q = q refl

pub one_of : (n : ℕ) → (n == 1) ≡ true → n ≡ 1
one_of n l = grind (arith, nat_tests)

-- Replies ------------------------------------------------------------------------------------

request_leads : (t : State) (o : OpenUnit) (p : Peer) (q : Request) → t.opened ≡ Some o → o.request ≡ q
    → Leads t (event.Reply (reply.Peer (Ok (Some p)))) (on_request t o p q)
request_leads t o p request.Null s e = Not_let_in o p s refl (subst (λ z. IsNotLetIn p z) (sym e) tt)
request_leads t o p (request.Bind name password) s e =
    if_leads t _ (bytes_eq name p.name && bytes_eq password p.expected_password) _ _ (λ b. quiet t _)
    (λ b. Not_let_in o p s refl (subst (λ z. IsNotLetIn p z) (sym e) b))
request_leads t o p (request.Recover x) s e = quiet t _

peer_leads : (t : State) (o : Option OpenUnit) (x : Result (Option Peer) NoMemory) → t.opened ≡ o
    → Leads t (event.Reply (reply.Peer x)) (on_peer t o x)
peer_leads t (Some o) (Ok (Some p)) s = request_leads t o p o.request s refl
peer_leads t (Some o) (Ok None) s = No_line refl
peer_leads t (Some o) (Err m) s = Look_failed (reply.Peer (Err m)) refl refl
peer_leads t None (Ok x) s = tt
peer_leads t None (Err m) s = Look_failed (reply.Peer (Err m)) refl refl

lane_leads : (t : State) (e : Event) (v : State) (o : Option OpenUnit) (p : Option Peer) (again : Bool)
    → Leads t e (asks_lane v o p again)
lane_leads t e v (Some o) (Some p) again = quiet t e
lane_leads t e v (Some o) None again = tt
lane_leads t e v None p again = tt

stands_leads : (t : State) (o : Option OpenUnit) (p : Option Peer) (x : Option ℕ) → t.phase ≡ phase.AsksStands
    → t.opened ≡ o → t.line ≡ p → Leads t (event.Reply (reply.LaneOf x)) (on_stands t o p x)
stands_leads t o p (Some lane) q a b = Reference_stands lane q refl
stands_leads t (Some o) (Some p) None q a b = if_leads t _ (o.twa && not p.twa) _ _ (λ l. One_way_alone o p a b l refl)
    (λ l. quiet t _)
stands_leads t (Some o) None None q a b = tt
stands_leads t None p None q a b = tt

accepts_leads : (t : State) (e : Event) (v : State) (a : Option Answer) → Leads t e (puts_accept v a)
accepts_leads t e v (Some a) = quiet t e
accepts_leads t e v None = tt

busy_leads : (t : State) (again : Bool) (count : ℕ) → t.phase ≡ phase.AsksNewLane again
    → Leads t (event.Reply (reply.LaneOpen (Err (fault.BusyLanes count))))
    (on_new_lane t again (Err (fault.BusyLanes count)))
busy_leads t true count q = Busy_again count q refl
busy_leads t false count q = quiet t _

new_lane_leads : (t : State) (again : Bool) (x : Result ℕ StepFault) → t.phase ≡ phase.AsksNewLane again
    → Leads t (event.Reply (reply.LaneOpen x)) (on_new_lane t again x)
new_lane_leads t again (Ok lane) q = accepts_leads t _ (with_lane t t.opened t.line lane) _
new_lane_leads t again (Err (fault.BusyLanes count)) q = busy_leads t again count q
new_lane_leads t again (Err fault.Unexpected) q = Not_opened refl
new_lane_leads t again (Err f) q = Step_refused (reply.LaneOpen (Err f)) f refl refl

room_leads : (t : State) (x : Result (Unit {0}) StepFault) → Leads t (event.Reply (reply.CloseLane x)) (on_room t x)
room_leads t (Ok x) = lane_leads t _ t t.opened t.line true
room_leads t (Err (fault.NoLane lane)) = lane_leads t _ t t.opened t.line true
room_leads t (Err (fault.Fenced generation)) = lane_leads t _ t t.opened t.line true
room_leads t (Err fault.Unexpected) = lane_leads t _ t t.opened t.line true
room_leads t (Err f) = Step_refused (reply.CloseLane (Err f)) f refl refl

link_leads : (t : State) (e : Event) (v : State) (x : Side) → Leads t e (answers_link v x)
link_leads t e v (side.Initiator p) = quiet t e
link_leads t e v (side.Responder own) = accepts_leads t e v _

step_leads : (t : State) (step : OwnStep) (x : Result (Unit {0}) StepFault) (y : Reply) → refused_in y ≡ refusal x
    → Leads t (event.Reply y) (on_step t step x)
step_leads t step (Ok x) y e = inl refl
step_leads t step (Err fault.Unexpected) y e = quiet t _
step_leads t step (Err f) y e = Step_refused y f refl e

closed_leads : (t : State) (x : Side) → t.phase ≡ phase.AsksClose
    → Leads t (event.Reply (reply.CloseLane (Ok tt))) (closed t x)
closed_leads t (side.Initiator p) q = (q, refl)
closed_leads t (side.Responder own) q = ends_at t _ end.Closed (q, refl)

dropped_leads : (t : State) (k : ℕ) (found : Option Found) (x : Unit {0}) → FitsAt (phase.AsksDrop k found) t
    → Leads t (event.Reply (reply.DropActivity (Ok x)))
    (goes_on_with found (record t { recv = r.made t.recv (r.Drop k) }))
dropped_leads t k (Some found) x f = tt
dropped_leads t k None x f =
    let at : t.recv.stage ≡ r.Discards k = f.2 in
    inr (λ m. never m.2, λ m. let other : t.recv.stage ≡ r.Asked m.0 m.1 = m.2 in cc)

pub reply_leads : (p : Phase) (t : State) (x : Reply) → t.phase ≡ p → end_of p ≡ None → FitsAt p t
    → Leads t (event.Reply x) (wanted_of_reply p t x)
reply_leads phase.AsksPeer t (reply.Peer x) q n f = peer_leads t t.opened x refl
reply_leads phase.AsksStands t (reply.LaneOf x) q n f = stands_leads t t.opened t.line x q refl refl
reply_leads (phase.AsksNewLane again) t (reply.LaneOpen x) q n f = new_lane_leads t again x q
reply_leads phase.AsksSpare t (reply.SpareLane (Some x)) q n f = quiet t _
reply_leads phase.AsksSpare t (reply.SpareLane None) q n f = No_room refl
reply_leads phase.AsksRoom t (reply.CloseLane x) q n f = room_leads t x
reply_leads phase.AsksOldLane t (reply.LaneOf (Some x)) q n f = quiet t _
reply_leads phase.AsksOldLane t (reply.LaneOf None) q n f = No_lane q refl
reply_leads phase.AsksBind t (reply.Bind (Ok x)) q n f = quiet t _
reply_leads phase.AsksBind t (reply.Bind (Err (fault.NoLane lane))) q n f = Not_bound lane refl
reply_leads phase.AsksBind t (reply.Bind (Err x)) q n f = Step_refused (reply.Bind (Err x)) x refl refl
reply_leads phase.AsksValues t (reply.Values (Some x)) q n f = quiet t _
reply_leads phase.AsksValues t (reply.Values None) q n f = tt
reply_leads phase.AsksRecovery t (reply.Recovery (Some x)) q n f = quiet t _
reply_leads phase.AsksRecovery t (reply.Recovery None) q n f = tt
reply_leads (phase.AsksReceiving state) t (reply.Receiving (Some x)) q n f =
    if_leads t _ (is_idle state) _ _ (λ b. link_leads t _ (restored (with_received t x) state []) t.side)
    (λ b. quiet t _)
reply_leads (phase.AsksReceiving state) t (reply.Receiving None) q n f = tt
reply_leads (phase.AsksResumed state) t (reply.Resumed (Ok (Some x))) q n f =
    link_leads t _ (restored t state x.octets) t.side
reply_leads (phase.AsksResumed state) t (reply.Resumed (Ok None)) q n f = tt
reply_leads (phase.AsksResumed state) t (reply.Resumed (Err x)) q n f = Look_failed (reply.Resumed (Err x)) refl refl
reply_leads phase.AsksAgree t (reply.LaneAgree (Ok x)) q n f = inl refl
reply_leads phase.AsksAgree t (reply.LaneAgree (Err x)) q n f = Step_refused (reply.LaneAgree (Err x)) x refl refl
reply_leads phase.AsksDenied t x q n f = absurd (some_none _ n)
reply_leads phase.AsksDue t (reply.BatchFor (Ok (Some x))) q n f = quiet t _
reply_leads phase.AsksDue t (reply.BatchFor (Ok None)) q n f = inl refl
reply_leads phase.AsksDue t (reply.BatchFor (Err x)) q n f = Look_failed (reply.BatchFor (Err x)) refl refl
reply_leads phase.AsksBatch t (reply.BatchFor (Ok (Some x))) q n f = quiet t _
reply_leads phase.AsksBatch t (reply.BatchFor (Ok None)) q n f =
    if_leads t _ (is_initiator t.side && not (t.please && t.twa)) _ _ (λ b. quiet t _) (λ b. quiet t _)
reply_leads phase.AsksBatch t (reply.BatchFor (Err x)) q n f = Look_failed (reply.BatchFor (Err x)) refl refl
reply_leads phase.AsksStart t (reply.Start (Ok x)) q n f = inl refl
reply_leads phase.AsksStart t (reply.Start (Err fault.Unexpected)) q n f = quiet t _
reply_leads phase.AsksStart t (reply.Start (Err x)) q n f = Step_refused (reply.Start (Err x)) x refl refl
reply_leads phase.AsksStillIdle t (reply.Recovery (Some x)) q n f =
    if_leads t _ (is_still t.send.state x) _ _
    (λ b. if_leads t _ (nat_lt 1 t.left) _ _ (λ c. quiet t _) (λ c. Too_many (grind (arith, nat_tests))))
    (λ b. Other_state (Some x) refl (subst (λ z. IsOtherState z t (Some x)) (sym q) b))
reply_leads phase.AsksStillIdle t (reply.Recovery None) q n f =
    Other_state None refl (subst (λ z. IsOtherState z t None) (sym q) tt)
reply_leads (phase.AsksStep (own.Confirm m)) t (reply.Confirm x) q n f =
    step_leads t (own.Confirm m) x (reply.Confirm x) refl
reply_leads (phase.AsksStep own.Ending) t (reply.Ending x) q n f = step_leads t own.Ending x (reply.Ending x) refl
reply_leads (phase.AsksStep own.Sent) t (reply.Sent x) q n f = step_leads t own.Sent x (reply.Sent x) refl
reply_leads (phase.AsksStep own.Dropped) t (reply.Dropped x) q n f = step_leads t own.Dropped x (reply.Dropped x) refl
reply_leads (phase.AsksStep (own.Refused kind)) t (reply.Refused x) q n f =
    step_leads t (own.Refused kind) x (reply.Refused x) refl
reply_leads phase.AsksState t (reply.Recovery (Some x)) q n f =
    if_leads t _ (is_given_up t x) _ _ (λ b. inl refl)
    (λ b. Other_state (Some x) refl (subst (λ z. IsOtherState z t (Some x)) (sym q) b))
reply_leads phase.AsksState t (reply.Recovery None) q n f =
    Other_state None refl (subst (λ z. IsOtherState z t None) (sym q) tt)
reply_leads (phase.AsksSecure k m) t (reply.Secure (Ok x)) q n f =
    inr (
      λ c. let other : r.Next k m ≡ r.Discards c.0 = c.1 in cc,
      λ c. let other : r.Next k m ≡ r.Asked c.0 c.1 =
          c.2 in cc,
    )
reply_leads (phase.AsksSecure k m) t (reply.Secure (Err (piece.Bad x))) q n f = tt
reply_leads (phase.AsksSecure k m) t (reply.Secure (Err (piece.Step x))) q n f =
    Step_refused (reply.Secure (Err (piece.Step x))) x refl refl
reply_leads (phase.AsksComplete k m) t (reply.Complete (Ok x)) q n f =
    let at : t.recv.stage ≡ r.Ended k m [] = f.2 in
    inr (
      λ c. let other : t.recv.stage ≡ r.Discards c.0 = c.1 in cc,
      λ c. let other : t.recv.stage ≡ r.Asked c.0 c.1 =
          c.2 in cc,
    )
reply_leads (phase.AsksComplete k m) t (reply.Complete (Err (piece.Bad x))) q n f = tt
reply_leads (phase.AsksComplete k m) t (reply.Complete (Err (piece.Step x))) q n f =
    Step_refused (reply.Complete (Err (piece.Step x))) x refl refl
reply_leads (phase.AsksDrop k found) t (reply.DropActivity (Ok x)) q n f = dropped_leads t k found x f
reply_leads (phase.AsksDrop k found) t (reply.DropActivity (Err x)) q n f =
    Step_refused (reply.DropActivity (Err x)) x refl refl
reply_leads phase.AsksClose t (reply.CloseLane (Ok x)) q n f = closed_leads t t.side q
reply_leads phase.AsksClose t (reply.CloseLane (Err x)) q n f = Step_refused (reply.CloseLane (Err x)) x refl refl
reply_leads (phase.AsksLast y) t x q n f = absurd (some_none _ n)
reply_leads (phase.PutsLast y) t x q n f = absurd (some_none _ n)
reply_leads (phase.Ended y) t x q n f = absurd (some_none _ n)
reply_leads p t x q n f = tt
