-- The turn at the other events, and what is done then.
use Rattle.std.proofs.Common.{◌≡◌, inl, ℕ, ◌==◌, ◌&&◌, not, nat_lt, if◌then◌else◌, Bool, true, false}
use Rattle.std.proofs.Common.{Option, Some, None, Result, Ok, Err, [], refl, sym, subst}
use Rattle.mta_ber.specs.declared.memory.Memory.{Memory as NoMemory}
use Rattle.mta_lane_send.specs.declared.state.SendState.{SendState}
use Rattle.mta_lane_send.specs.Half.{is_idle}
use Rattle.mta_rtse.specs.declared.types.Answer.{Answer}
use Rattle.mta_units.specs.declared.unit.Unit.{Unit as AnyUnit}
use Rattle.mta_units.specs.declared.unit.Unit.TheVariants as unit
use Rattle.mta_transfer_rules.specs.Units as u
use Rattle.mta_records.specs.Outgoing.{Carried}
use Rattle.mta_records.specs.declared.fault.CompleteFault.{CompleteFault}
use Rattle.mta_records.specs.declared.fault.CompleteFault.TheVariants as piece
use Rattle.mta_records.specs.declared.fault.StepFault.{StepFault}
use Rattle.mta_records.specs.declared.fault.StepFault.TheVariants as fault
use Rattle.mta_records.specs.declared.lane.Batch.{Batch}
use Rattle.mta_session.specs.declared.ask.Ask.{Ask}
use Rattle.mta_session.specs.declared.ask.Ask.TheVariants as ask
use Rattle.mta_session.specs.declared.ask.Reply.{Reply}
use Rattle.mta_session.specs.declared.ask.Reply.TheVariants as reply
use Rattle.mta_session.specs.declared.event.Action.{Action}
use Rattle.mta_session.specs.declared.event.Action.TheVariants as action
use Rattle.mta_session.specs.declared.event.Side.{Side}
use Rattle.mta_session.specs.declared.event.Side.TheVariants as side
use Rattle.mta_session.specs.declared.phase.Found.{Found}
use Rattle.mta_session.specs.declared.phase.OwnStep.{OwnStep}
use Rattle.mta_session.specs.declared.phase.OwnStep.TheVariants as own
use Rattle.mta_session.specs.declared.phase.Phase.{Phase}
use Rattle.mta_session.specs.declared.phase.Phase.TheVariants as phase
use Rattle.mta_session.specs.State.{State, is_initiator}
use Rattle.mta_session.specs.Wanted.{Wanted, Ends, Puts, Asks, Reads, Goes_on, Excepts, Never}
use Rattle.mta_session.specs.Wanted.{open_unit, abort_of, begins, answers_link, puts_accept, on_received, on_batch}
use Rattle.mta_session.specs.Wanted.{on_due, on_start, on_still_idle, is_still, on_step, on_state, is_given_up}
use Rattle.mta_session.specs.Wanted.{on_secured, on_completed, on_dropped, closed, after_accept, with_received}
use Rattle.mta_session.specs.Wanted.{restored, wanted_of_reply, wanted_of_go, wanted_of_over}
use Rattle.mta_session.specs.Follows.{part_of, part_of_abort, Of_receiver, Of_neither, PutsFor, AsksFor, GoesOn}
use Rattle.mta_session.specs.Follows.{ExceptsFor, Does}
use Rattle.mta_session.specs.Fits.{FitsAt}
use Rattle.mta_transfer_laws.specs.Sessions as x
use Rattle.mta_transfer_laws.specs.Sessions.{Put, Turn, turn_put, TurnAllows}
use Rattle.mta_session_list_laws.proofs.Found.{never, both}
use Rattle.mta_session_list_laws.proofs.Turns.{HoldsBy, HasTurn, Closes, Holds, TurnGoes, if_goes, own_turn}
use Rattle.mta_session_list_laws.proofs.Turns.{abort_allowed, transfer_keeps, answer_keeps}

-- ---- before the link is answered

pub accept_goes : (v : Turn) (t : State) (a : Option Answer) → v ≡ x.Before_accept → TurnGoes v (puts_accept t a)
accept_goes v t (Some a) k =
    subst (λ z. TurnAllows z (Put (unit.Accept t.checkpoint t.window a))
    × (turn_put z (unit.Accept t.checkpoint t.window a) ≡ x.Theirs)) (sym k) (tt, refl)
accept_goes v t None k = tt

link_goes : (v : Turn) (t : State) (s : Side) → v ≡ x.Before_accept → TurnGoes v (answers_link t s)
link_goes v t (side.Initiator p) k =
    subst (λ z. TurnAllows z (Put (unit.Open (open_unit p t)))
    × (turn_put z (unit.Open (open_unit p t)) ≡ x.Before_accept)) (sym k) (tt, refl)
link_goes v t (side.Responder own) k = accept_goes v t _ k

begins_goes : (v : Turn) (t : State) (s : Side) → v ≡ x.Before_accept → is_initiator s ≡ true → TurnGoes v (begins s t)
begins_goes v t (side.Initiator p) k i =
    if_goes v p.recovering _ _ (λ b. k)
    (λ b. link_goes v t (side.Initiator p) k)
begins_goes v t (side.Responder own) k i = absurd (never i)

received_goes : (v : Turn) (t : State) (state : SendState) → v ≡ x.Before_accept → TurnGoes v (on_received t state)
received_goes v t state k =
    if_goes v (is_idle state) _ _ (λ b. link_goes v (restored t state []) t.side k) (λ b. k)

-- ---- an open session

due_goes : (v : Turn) (t : State) (r : Result (Option Batch) NoMemory) → v ≡ x.Theirs → t.ours ≡ false
    → TurnGoes v (on_due t r)
due_goes v t (Ok (Some batch)) k o =
    subst (λ z. TurnAllows z (Put (unit.Please 0)) × HoldsBy t.ours true (turn_put z (unit.Please 0))) (sym k)
    (tt, subst (λ i. HoldsBy i true x.Theirs) (sym o) (inl refl))
due_goes v t (Ok None) k o = subst (λ i. HoldsBy i t.please v) (sym o) (inl k)
due_goes v t (Err m) k o = subst (λ z. TurnAllows z (Put (unit.Abort 0))) (sym k) tt

accepted_goes : (v : Turn) (t : State) → v ≡ x.Theirs → t.ours ≡ false → TurnGoes v (after_accept t)
accepted_goes v t k o =
    if_goes v t.twa _ _
    (λ b. if_goes v (is_idle t.send.state) _ _ (λ c. k)
    (λ c. subst (λ z. TurnAllows z (Put (unit.Please 0)) × HoldsBy t.ours true (turn_put z (unit.Please 0))) (sym k)
    (tt, subst (λ i. HoldsBy i true x.Theirs) (sym o) (inl refl))))
    (λ b. subst (λ i. HoldsBy i t.please v) (sym o) (inl k))

batch_goes : (v : Turn) (t : State) (r : Result (Option Batch) NoMemory) → HasTurn t v → t.ours ≡ true
    → TurnGoes v (on_batch t r)
batch_goes v t (Ok (Some batch)) h o = h
batch_goes v t (Ok None) h o =
    let same : v ≡ x.Own = own_turn t.ours t.please v o h in
    if_goes v (is_initiator t.side && not (t.please && t.twa)) _ _
    (λ b. subst (λ z. TurnAllows z (Put unit.Close)
    × ((turn_put z unit.Close ≡ x.Own_closing) × (is_initiator t.side ≡ true))) (sym same)
    (tt, (refl, (both (is_initiator t.side) (not (t.please && t.twa)) b).0)))
    (λ b. subst (λ z. TurnAllows z (Put unit.Give) × HoldsBy false false (turn_put z unit.Give)) (sym same)
    (tt, inl refl))
batch_goes v t (Err m) h o = abort_allowed t.ours t.please v 0 h

start_goes : (v : Turn) (t : State) (r : Result Carried StepFault) → HasTurn t v → TurnGoes v (on_start t r)
start_goes v t (Ok o) h = h
start_goes v t (Err fault.Unexpected) h = h
start_goes v t (Err f) h = abort_allowed t.ours t.please v _ h

still_goes : (v : Turn) (t : State) (told : Option SendState) → HasTurn t v → TurnGoes v (on_still_idle t told)
still_goes v t (Some told) h =
    if_goes v (is_still t.send.state told) _ _
    (λ b. if_goes v (nat_lt 1 t.left) _ _ (λ c. h) (λ c. abort_allowed t.ours t.please v 3 h))
    (λ b. abort_allowed t.ours t.please v 4 h)
still_goes v t None h = abort_allowed t.ours t.please v 4 h

step_goes : (v : Turn) (t : State) (step : OwnStep) (r : Result (Unit {0}) StepFault) → HasTurn t v
    → TurnGoes v (on_step t step r)
step_goes v t step (Ok z) h = h
step_goes v t step (Err fault.Unexpected) h = h
step_goes v t step (Err f) h = abort_allowed t.ours t.please v _ h

state_goes : (v : Turn) (t : State) (told : Option SendState) → HasTurn t v → TurnGoes v (on_state t told)
state_goes v t (Some told) h =
    if_goes v (is_given_up t told) _ _ (λ b. h) (λ b. abort_allowed t.ours t.please v 4 h)
state_goes v t None h = abort_allowed t.ours t.please v 4 h

secured_goes : (v : Turn) (t : State) (k n : ℕ) (r : Result (Unit {0}) CompleteFault) → HasTurn t v
    → TurnGoes v (on_secured t k n r)
secured_goes v t k n (Ok z) h = h
secured_goes v t k n (Err (piece.Bad f)) h = h
secured_goes v t k n (Err (piece.Step f)) h = abort_allowed t.ours t.please v _ h

completed_goes : (v : Turn) (t : State) (k n : ℕ) (r : Result ℕ CompleteFault) → HasTurn t v
    → TurnGoes v (on_completed t k n r)
completed_goes v t k n (Ok z) h = h
completed_goes v t k n (Err (piece.Bad f)) h = h
completed_goes v t k n (Err (piece.Step f)) h = abort_allowed t.ours t.please v _ h

dropped_goes : (v : Turn) (t : State) (k : ℕ) (f : Option Found) (r : Result (Unit {0}) StepFault) → HasTurn t v
    → TurnGoes v (on_dropped t k f r)
dropped_goes v t k (Some f) (Ok z) h = h
dropped_goes v t k None (Ok z) h = h
dropped_goes v t k f (Err e) h = abort_allowed t.ours t.please v _ h

closes_abort : (v : Turn) (s : Side) (reason : ℕ) → Closes s v → TurnAllows v (Put (unit.Abort reason))
closes_abort v (side.Initiator p) reason k = subst (λ z. TurnAllows z (Put (unit.Abort reason))) (sym k) tt
closes_abort v (side.Responder own) reason k = subst (λ z. TurnAllows z (Put (unit.Abort reason))) (sym k) tt

closed_goes : (v : Turn) (t : State) (s : Side) → Closes s v → TurnGoes v (closed t s)
closed_goes v t (side.Initiator p) k = tt
closed_goes v t (side.Responder own) k = (subst (λ z. TurnAllows z (Put unit.CloseAck)) (sym k) tt, tt)

-- ---- by phase

pub reply_goes : (p : Phase) (t : State) (y : Reply) (v : Turn) → Holds p t v → FitsAt p t
    → TurnGoes v (wanted_of_reply p t y)
reply_goes phase.AsksPeer t y v h f = absurd h
reply_goes phase.AsksStands t y v h f = absurd h
reply_goes (phase.AsksNewLane again) t y v h f = absurd h
reply_goes phase.AsksSpare t y v h f = absurd h
reply_goes phase.AsksRoom t y v h f = absurd h
reply_goes phase.AsksOldLane t y v h f = absurd h
reply_goes phase.AsksBind t y v h f = absurd h
reply_goes phase.AsksValues t (reply.Values (Some z)) v h f = h
reply_goes phase.AsksValues t (reply.Values None) v h f = tt
reply_goes phase.AsksRecovery t (reply.Recovery (Some z)) v h f = h
reply_goes phase.AsksRecovery t (reply.Recovery None) v h f = tt
reply_goes (phase.AsksReceiving state) t (reply.Receiving (Some z)) v h f = received_goes v (with_received t z) state h
reply_goes (phase.AsksReceiving state) t (reply.Receiving None) v h f = tt
reply_goes (phase.AsksResumed state) t (reply.Resumed (Ok (Some o))) v h f = link_goes v (restored t state o.octets)
    t.side h
reply_goes (phase.AsksResumed state) t (reply.Resumed (Ok None)) v h f = tt
reply_goes (phase.AsksResumed state) t (reply.Resumed (Err m)) v h f =
    subst (λ z. TurnAllows z (Put (unit.Abort 0))) (sym h) tt
reply_goes phase.AsksAgree t (reply.LaneAgree (Ok z)) v h f = h
reply_goes phase.AsksAgree t (reply.LaneAgree (Err e)) v h f =
    subst (λ z. TurnAllows z (Put (unit.Abort (abort_of e)))) (sym h) tt
reply_goes phase.AsksDenied t (reply.Denied (Ok z)) v h f = tt
reply_goes phase.AsksDenied t (reply.Denied (Err e)) v h f = tt
reply_goes phase.AsksDue t (reply.BatchFor r) v h f = due_goes v t r h f.2
reply_goes phase.AsksBatch t (reply.BatchFor r) v h f = batch_goes v t r h f.2
reply_goes phase.AsksStart t (reply.Start r) v h f = start_goes v t r h
reply_goes phase.AsksStillIdle t (reply.Recovery r) v h f = still_goes v t r h
reply_goes (phase.AsksStep (own.Confirm n)) t (reply.Confirm r) v h f = step_goes v t (own.Confirm n) r h
reply_goes (phase.AsksStep own.Ending) t (reply.Ending r) v h f = step_goes v t own.Ending r h
reply_goes (phase.AsksStep own.Sent) t (reply.Sent r) v h f = step_goes v t own.Sent r h
reply_goes (phase.AsksStep own.Dropped) t (reply.Dropped r) v h f = step_goes v t own.Dropped r h
reply_goes (phase.AsksStep (own.Refused k)) t (reply.Refused r) v h f = step_goes v t (own.Refused k) r h
reply_goes phase.AsksState t (reply.Recovery r) v h f = state_goes v t r h
reply_goes (phase.AsksSecure k n) t (reply.Secure r) v h f = secured_goes v t k n r h
reply_goes (phase.AsksComplete k n) t (reply.Complete r) v h f = completed_goes v t k n r h
reply_goes (phase.AsksDrop k found) t (reply.DropActivity r) v h f = dropped_goes v t k found r h
reply_goes phase.AsksClose t (reply.CloseLane (Ok z)) v h f = closed_goes v t t.side h
reply_goes phase.AsksClose t (reply.CloseLane (Err e)) v h f = closes_abort v t.side _ h
reply_goes (phase.AsksLast y) t r v h f = tt
reply_goes p t y v h f = tt

pub go_goes : (p : Phase) (t : State) (v : Turn) → Holds p t v → FitsAt p t → TurnGoes v (wanted_of_go p t)
go_goes phase.Begin t v h f = begins_goes v t t.side h.0 h.1
go_goes phase.PutsOpen t v h f = h
go_goes phase.PutsAccept t v h f = accepted_goes v t h f.2
go_goes phase.Puts t v h f = h
go_goes phase.PutsClose t v h f = h
go_goes (phase.PutsLast y) t v h f = tt
go_goes p t v h f = tt

pub over_goes : (p : Phase) (v : Turn) → TurnGoes v (wanted_of_over p)
over_goes (phase.PutsLast y) v = tt
over_goes p v = tt

-- ---- what is done

abbrev pub PutAllowed : Action → Turn → Type 0
PutAllowed (action.Put u) v = TurnAllows v (Put u)
PutAllowed a v = Unit {0}

-- the turn once the action has come to be
abbrev pub turned : Action → Turn → Turn
turned (action.Put u) v = turn_put v u
turned a v = v

pub record Done (a : Action) (new : State) (v : Turn) : Type 0 where
  pub allowed : PutAllowed a v
  pub holds : Holds new.phase new (turned a v)

landed : (a b : Action) (new t : State) (v : Turn) → a ≡ b → new ≡ t → PutAllowed b v → Holds t.phase t (turned b v)
    → Done a new v
landed a b new t v p q k h = record {
  allowed = subst (λ z. PutAllowed z v) (sym p) k;
  holds = subst (λ z. Holds new.phase new (turned z v)) (sym p) (subst (λ z. Holds z.phase z (turned b v)) (sym q) h);
}

abort_put : (t : State) (z : ℕ) (new : State) (v : Turn) (b c : Bool) → (z == 7) ≡ b → (z == 2) ≡ c
    → PutsFor t (part_of_abort z) (unit.Abort z) new → HasTurn t v → Done (action.Put (unit.Abort z)) new v
abort_put t z new v true c p q g h =
    let first = subst (λ b. PutsFor t
    (if b then Of_receiver u.Completed else (if z == 2 then Of_receiver u.Unrecognized else Of_neither))
    (unit.Abort z) new) p g in
    landed _ _ new _ v refl first.1 (abort_allowed t.ours t.please v z h) tt
abort_put t z new v false true p q g h =
    let first = subst (λ b. PutsFor t
    (if b then Of_receiver u.Completed else (if z == 2 then Of_receiver u.Unrecognized else Of_neither))
    (unit.Abort z) new) p g in
    let second = subst (λ b. PutsFor t (if b then Of_receiver u.Unrecognized else Of_neither) (unit.Abort z) new) q
    first in
    landed _ _ new _ v refl second.1 (abort_allowed t.ours t.please v z h) tt
abort_put t z new v false false p q g h =
    let first = subst (λ b. PutsFor t
    (if b then Of_receiver u.Completed else (if z == 2 then Of_receiver u.Unrecognized else Of_neither))
    (unit.Abort z) new) p g in
    let second = subst (λ b. PutsFor t (if b then Of_receiver u.Unrecognized else Of_neither) (unit.Abort z) new) q
    first in
    elim second [ ]

puts_done : (t : State) (y : AnyUnit) (new : State) (v : Turn) → HasTurn t v → PutsFor t (part_of y) y new
    → Done (action.Put y) new v
puts_done t (unit.Start k) new v h g = let z = transfer_keeps t.ours t.please v (unit.Start k) refl g.0 h in landed _
    _ new _ v refl g.2 z.0 z.1
puts_done t (unit.Piece k) new v h g = let z = transfer_keeps t.ours t.please v (unit.Piece k) refl g.0 h in landed _
    _ new _ v refl g.2 z.0 z.1
puts_done t (unit.Sync k) new v h g = let z = transfer_keeps t.ours t.please v (unit.Sync k) refl g.0 h in landed _ _
    new _ v refl g.2 z.0 z.1
puts_done t (unit.End k) new v h g = let z = transfer_keeps t.ours t.please v (unit.End k) refl g.0 h in landed _ _
    new _ v refl g.2 z.0 z.1
puts_done t (unit.Resume k n) new v h g = let z = transfer_keeps t.ours t.please v (unit.Resume k n) refl g.0 h
    in landed _ _ new _ v refl g.2 z.0 z.1
puts_done t (unit.Discard k) new v h g = let z = transfer_keeps t.ours t.please v (unit.Discard k) refl g.0 h
    in landed _ _ new _ v refl g.2 z.0 z.1
puts_done t (unit.SyncAck k) new v h g = let z = answer_keeps t.ours t.please v (unit.SyncAck k) refl h in landed _ _
    new _ v refl g.1 z.0 z.1
puts_done t (unit.EndAck k) new v h g = let z = answer_keeps t.ours t.please v (unit.EndAck k) refl h in landed _ _
    new _ v refl g.1 z.0 z.1
puts_done t (unit.ResumeAck k n) new v h g = let z = answer_keeps t.ours t.please v (unit.ResumeAck k n) refl h
    in landed _ _ new _ v refl g.1 z.0 z.1
puts_done t (unit.DiscardAck k) new v h g = let z = answer_keeps t.ours t.please v (unit.DiscardAck k) refl h
    in landed _ _ new _ v refl g.1 z.0 z.1
puts_done t (unit.Abort z) new v h g = abort_put t z new v (z == 7) (z == 2) refl refl g h
puts_done t y new v h g = elim g [ ]

asks_done : (t : State) (y : Ask) (new : State) (v : Turn) → HasTurn t v → AsksFor t y new → Done (action.Ask y) new v
asks_done t (ask.Secure lane g k n octets) new v h a = landed _ _ new _ v refl a.3 tt h
asks_done t (ask.Complete lane g k n octets) new v h a = landed _ _ new _ v refl a.3 tt h
asks_done t (ask.DropActivity lane g k) new v h a = landed _ _ new _ v refl a.3 tt h
asks_done t (ask.Ending lane g k) new v h a = landed _ _ new _ v refl a.6 tt h
asks_done t (ask.BatchFor peer) new v h a = landed _ _ new _ v refl a.3 tt h
asks_done t y new v h a = elim a [ ]

goes_done : (t : State) (a : Action) (new : State) (v : Turn) → HasTurn t v → GoesOn t a new → Done a new v
goes_done t (action.Put y) new v h g = puts_done t y new v h g
goes_done t (action.Ask y) new v h g = asks_done t y new v h g
goes_done t action.Read new v h g = landed _ _ new _ v refl g.1 tt h
goes_done t (action.Finish y) new v h g = elim g [ ]

excepts_asked : (t : State) (f : Found) (y : Ask) (new : State) (v : Turn) → HasTurn t v → ExceptsFor t f
    (action.Ask y) new
    → Done (action.Ask y) new v
excepts_asked t f (ask.DropActivity lane g k) new v h a = landed _ _ new _ v refl a.3 tt h
excepts_asked t f y new v h a = elim a [ ]

excepts_put : (t : State) (f : Found) (y : AnyUnit) (new : State) (v : Turn) → HasTurn t v → ExceptsFor t f
    (action.Put y) new
    → Done (action.Put y) new v
excepts_put t f (unit.Exception kind at) new v h a = let z = answer_keeps t.ours t.please v (unit.Exception kind at)
    refl h in landed _ _ new _ v refl a.3 z.0 z.1
excepts_put t f y new v h a = elim a [ ]

excepts_done : (t : State) (f : Found) (a : Action) (new : State) (v : Turn) → HasTurn t v → ExceptsFor t f a new
    → Done a new v
excepts_done t f (action.Ask y) new v h g = excepts_asked t f y new v h g
excepts_done t f (action.Put y) new v h g = excepts_put t f y new v h g
excepts_done t f any2 new v h g = elim g [ ]

pub does_done : (t : State) (w : Wanted) (a : Action) (new : State) (v : Turn) → TurnGoes v w → Does t w a new → Done
    a new v
does_done t (Ends y) a new v k d = landed a _ new _ v d.0 d.1 tt tt
does_done t (Puts y z) a new v k d = landed a _ new z v d.0 d.1 k.0 k.1
does_done t (Asks y z) a new v k d = landed a _ new z v d.0 d.1 tt k
does_done t (Reads z) a new v k d = landed a _ new z v d.0 d.1 tt k
does_done t (Goes_on z) a new v k d = goes_done z a new v k d
does_done t (Excepts z f) a new v k d = excepts_done z f a new v k d
does_done t Never a new v k d = elim d [ ]
does_done t any1 a new v k d = landed a _ new _ v d.0 d.1 k tt
