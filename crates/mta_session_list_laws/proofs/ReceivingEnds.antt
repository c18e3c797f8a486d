-- What a session wants at its end concerns no transfer, and before it is open no unit of one is taken.
use Rattle.std.proofs.Common.{◌≡◌, ℕ, ◌==◌, if◌then◌else◌, Bool, true, false, Result, Ok, Err, List, []}
use Rattle.std.proofs.Common.{refl, sym, ap, subst, ◌∙◌}
use Rattle.mta_units.specs.declared.unit.Unit.{Unit as AnyUnit}
use Rattle.mta_units.specs.declared.unit.Unit.TheVariants as unit
use Rattle.mta_transfer_rules.specs.Receiving as r
use Rattle.mta_transfer_rules.specs.Receiving.{RecvEnd, RecvEvent}
use Rattle.mta_records.specs.declared.fault.StepFault.{StepFault}
use Rattle.mta_session.specs.declared.ask.Ask.{Ask}
use Rattle.mta_session.specs.declared.ask.Ask.TheVariants as ask
use Rattle.mta_session.specs.declared.ask.Reply.{Reply}
use Rattle.mta_session.specs.declared.ask.Reply.TheVariants as reply
use Rattle.mta_session.specs.declared.event.Action.{Action}
use Rattle.mta_session.specs.declared.event.Event.{Event}
use Rattle.mta_session.specs.declared.event.Event.TheVariants as event
use Rattle.mta_session.specs.declared.event.Side.{Side}
use Rattle.mta_session.specs.declared.event.Side.TheVariants as side
use Rattle.mta_session.specs.declared.phase.Phase.{Phase}
use Rattle.mta_session.specs.declared.phase.Phase.TheVariants as phase
use Rattle.mta_session.specs.State.{State}
use Rattle.mta_session.specs.Wanted.{Wanted, Aborts, Rejects, Ends, Puts, Asks, Reads, Goes_on, Excepts, Never}
use Rattle.mta_session.specs.Wanted.{on_denied, closed, on_closed, on_answer_by, wanted_of_go, wanted_of_unit}
use Rattle.mta_session.specs.Wanted.{wanted_of_reply, wanted_of_over}
use Rattle.mta_session.specs.Follows.{Of_neither, part_of_abort, Does, counted}
use Rattle.mta_session_laws.specs.Turning.{is_last_phase, called_for}
use Rattle.mta_session_laws.specs.TurningRecv.{with_put}
use Rattle.mta_session_laws.proofs.Opening.{wanted_in}
use Rattle.mta_session_laws.proofs.Rows.{refusal_says_nothing}
use Rattle.mta_session_laws.specs.Runs.{Turn, IsTurn}
use Rattle.mta_session_laws.proofs.Whole.{is_ended}
use Rattle.mta_transfer_laws.specs.Sessions.{receiving_event, answer_unit, answers_of}
use Rattle.mta_lane_match_laws.specs.Asks.{IsAskOf, IsLast}
use Rattle.mta_session.specs.Fits.{RepliesTo}
use Rattle.mta_session_list_laws.specs.Calls.{step_told, look_told, told_as, got_as}
use Rattle.mta_session_list_laws.proofs.Found.{never}
use Rattle.mta_session_list_laws.proofs.Waiting.{does_at}
use Rattle.mta_session_list_laws.proofs.Received.{nothing_taken, quiet_reply, put_same}
use Rattle.mta_session_list_laws.proofs.Receiving.{pending}
use Rattle.mta_session_list_laws.proofs.ReceivingPhases.{last_at, After}

-- ---- at the end

abbrev LastWaits : Wanted → Type 0
LastWaits (Aborts reason) = part_of_abort reason ≡ Of_neither
LastWaits (Rejects reason) = ⊥
LastWaits (Ends y) = Unit {0}
LastWaits (Puts y t) = (answers_of (answer_unit y) ≡ []) × (is_last_phase t.phase ≡ true)
LastWaits (Asks q t) = is_last_phase t.phase ≡ true
LastWaits (Reads t) = ⊥
LastWaits (Goes_on t) = ⊥
LastWaits (Excepts t f) = ⊥
LastWaits Never = Unit {0}

if_last : (b : Bool) (w z : Wanted) → LastWaits w → LastWaits z → LastWaits (if b then w else z)
if_last true w z p q = p
if_last false w z p q = q

denied_last : (t : State) (y : Result (Unit {0}) StepFault) → LastWaits (on_denied t y)
denied_last t (Ok z) = refl
denied_last t (Err f) = tt

closed_by : (t : State) (s : Side) → LastWaits (closed t s)
closed_by t (side.Initiator p) = tt
closed_by t (side.Responder own) = (refl, refl)

closed_last : (t : State) (y : Result (Unit {0}) StepFault) → LastWaits (on_closed t y)
closed_last t (Ok z) = closed_by t t.side
closed_last t (Err f) = refusal_says_nothing f

reply_last : (p : Phase) (t : State) (y : Reply) → is_last_phase p ≡ true → LastWaits (wanted_of_reply p t y)
reply_last phase.AsksDenied t (reply.Denied y) i = denied_last t y
reply_last phase.AsksDenied t y i = tt
reply_last phase.AsksClose t (reply.CloseLane y) i = closed_last t y
reply_last phase.AsksClose t y i = tt
reply_last (phase.AsksLast z) t y i = tt
reply_last (phase.PutsLast z) t y i = tt
reply_last (phase.Ended z) t y i = tt
reply_last p t y i = absurd (never i)

go_last : (p : Phase) (t : State) → is_last_phase p ≡ true → LastWaits (wanted_of_go p t)
go_last (phase.PutsLast y) t i = tt
go_last phase.AsksDenied t i = tt
go_last phase.AsksClose t i = tt
go_last (phase.AsksLast y) t i = tt
go_last (phase.Ended y) t i = tt
go_last p t i = absurd (never i)

unit_last : (p : Phase) (t : State) (y : AnyUnit) → is_last_phase p ≡ true → LastWaits (wanted_of_unit p t y)
unit_last (phase.PutsLast z) t y i = tt
unit_last phase.AsksDenied t y i = tt
unit_last phase.AsksClose t y i = tt
unit_last (phase.AsksLast z) t y i = tt
unit_last (phase.Ended z) t y i = tt
unit_last p t y i = absurd (never i)

over_last : (p : Phase) → LastWaits (wanted_of_over p)
over_last (phase.PutsLast y) = tt
over_last p = tt

last_waits : (p : Phase) (t : State) (e : Event) → is_last_phase p ≡ true → LastWaits (wanted_in p t e)
last_waits p t event.Go i = go_last p t i
last_waits p t (event.Unit y) i = if_last (t.left == 0) (Aborts 3) (wanted_of_unit p t y) refl (unit_last p t y i)
last_waits p t event.BadUnit i = if_last (t.left == 0) (Aborts 3) (Aborts 4) refl refl
last_waits p t (event.Reply y) i = reply_last p t y i
last_waits p t event.Over i = over_last p

none_put : (reason : ℕ) → part_of_abort reason ≡ Of_neither → answers_of (answer_unit (unit.Abort reason)) ≡ []
none_put reason e = sym (put_same [] (unit.Abort reason) refl) ∙ ap (with_put []) e

pub record Silent (a : Action) (new : State) : Type 0 where
  pub none : pending a ≡ []
  pub last : is_last_phase new.phase ≡ true

does_silent : (c : State) (w : Wanted) (a : Action) (new : State) → LastWaits w → Does c w a new → Silent a new
does_silent c (Aborts reason) a new k d = record
    { none = ap {A = Action} pending d.0 ∙ none_put reason k; last = ap {A = State} (λ z. is_last_phase z.phase) d.1 }
does_silent c (Ends y) a new k d = record
    { none = ap {A = Action} pending d.0; last = ap {A = State} (λ z. is_last_phase z.phase) d.1 }
does_silent c (Puts y t) a new k d = record
    { none = ap {A = Action} pending d.0 ∙ k.0; last = ap {A = State} (λ z. is_last_phase z.phase) d.1 ∙ k.1 }
does_silent c (Asks q t) a new k d = record
    { none = ap {A = Action} pending d.0; last = ap {A = State} (λ z. is_last_phase z.phase) d.1 ∙ k }
does_silent c Never a new k d = elim d [ ]
does_silent c any1 a new k d = absurd k

-- it puts nothing of a transfer, and does not go on
pub last_silent : (t : Turn) → IsTurn t → is_ended t.before.phase ≡ false → is_last_phase t.before.phase ≡ true
    → Silent t.action t.after
last_silent t is i l =
    does_silent (counted t.before t.event) (wanted_in t.before.phase (counted t.before t.event) t.event) t.action
    t.after
    (last_waits t.before.phase (counted t.before t.event) t.event l) (does_at t t.event refl is i)

pub silent_after : (early : Type 0) (first b : RecvEnd) (a : Action) (new : State) → Silent a new → After early first
    b a new
silent_after early first b a new k = record {
  ended = b;
  run = subst (λ z. r.IsReceivingEnd b z b) (sym k.none) refl;
  at = last_at early first new.phase new a b k.last;
}

-- ---- what is told then

abbrev RecvTold : (lane seen : ℕ) → Ask → Reply → List RecvEvent
RecvTold lane seen a y = receiving_event lane (told_as seen (step_told a y) (look_told a y))

if_nothing : (b : Bool) → ◌≡◌ {A = List RecvEvent} (if b then [] else []) []
if_nothing true = refl
if_nothing false = refl

last_quiet : (lane seen : ℕ) (t : State) (a : Ask) (y : Reply) → IsLast t a → RecvTold lane seen a y ≡ []
last_quiet lane seen t (ask.CloseLane n g) (reply.CloseLane (Ok z)) k = if_nothing (n == lane)
last_quiet lane seen t (ask.CloseLane n g) y k = refl
last_quiet lane seen t (ask.Denied n g j) (reply.Denied (Ok z)) k = if_nothing (n == lane)
last_quiet lane seen t (ask.Denied n g j) y k = refl
last_quiet lane seen t (ask.Sent n g j) (reply.Sent (Ok z)) k = if_nothing (n == lane)
last_quiet lane seen t (ask.Sent n g j) y k = refl
last_quiet lane seen t a y k = absurd k

pub end_quiet : (lane seen : ℕ) (p : Phase) (t : State) (a : Ask) (y : Reply) → is_last_phase p ≡ true → IsAskOf p t a
    → RepliesTo p t y → RecvTold lane seen a y ≡ []
end_quiet lane seen phase.AsksDenied t a (reply.Denied z) i k rep = quiet_reply lane seen a (reply.Denied z) refl
end_quiet lane seen phase.AsksClose t a (reply.CloseLane z) i k rep = quiet_reply lane seen a (reply.CloseLane z) refl
end_quiet lane seen (phase.AsksLast z) t a y i k rep = last_quiet lane seen t a y k
end_quiet lane seen phase.AsksDenied t a y i k rep = absurd rep
end_quiet lane seen phase.AsksClose t a y i k rep = absurd rep
end_quiet lane seen (phase.PutsLast z) t a y i k rep = absurd rep
end_quiet lane seen (phase.Ended z) t a y i k rep = absurd rep
end_quiet lane seen p t a y i k rep = absurd (never i)

-- and before the session is open
abbrev pub is_opening : Phase → Bool
is_opening phase.Begin = true
is_opening phase.AsksValues = true
is_opening phase.AsksRecovery = true
is_opening (phase.AsksReceiving state) = true
is_opening (phase.AsksResumed state) = true
is_opening phase.PutsOpen = true
is_opening phase.ReadsAnswer = true
is_opening phase.AsksAgree = true
is_opening phase.PutsAccept = true
is_opening p = false

pub opening_quiet : (lane seen : ℕ) (p : Phase) (t : State) (a : Ask) (y : Reply) → is_opening p ≡ true
    → RepliesTo p t y → RecvTold lane seen a y ≡ []
opening_quiet lane seen phase.AsksValues t a (reply.Values z) i rep = quiet_reply lane seen a (reply.Values z) refl
opening_quiet lane seen phase.AsksRecovery t a (reply.Recovery z) i rep = quiet_reply lane seen a (reply.Recovery z)
    refl
opening_quiet lane seen (phase.AsksReceiving s) t a (reply.Receiving z) i rep = quiet_reply lane seen a
    (reply.Receiving z) refl
opening_quiet lane seen (phase.AsksResumed s) t a (reply.Resumed z) i rep = quiet_reply lane seen a (reply.Resumed z)
    refl
opening_quiet lane seen phase.AsksAgree t a (reply.LaneAgree z) i rep = quiet_reply lane seen a (reply.LaneAgree z) refl
opening_quiet lane seen phase.AsksPeer t a y i rep = absurd (never i)
opening_quiet lane seen phase.AsksStands t a y i rep = absurd (never i)
opening_quiet lane seen (phase.AsksNewLane again) t a y i rep = absurd (never i)
opening_quiet lane seen phase.AsksSpare t a y i rep = absurd (never i)
opening_quiet lane seen phase.AsksRoom t a y i rep = absurd (never i)
opening_quiet lane seen phase.AsksOldLane t a y i rep = absurd (never i)
opening_quiet lane seen phase.AsksBind t a y i rep = absurd (never i)
opening_quiet lane seen phase.AsksDenied t a y i rep = absurd (never i)
opening_quiet lane seen phase.AsksDue t a y i rep = absurd (never i)
opening_quiet lane seen phase.AsksBatch t a y i rep = absurd (never i)
opening_quiet lane seen phase.AsksStart t a y i rep = absurd (never i)
opening_quiet lane seen phase.AsksStillIdle t a y i rep = absurd (never i)
opening_quiet lane seen (phase.AsksStep step) t a y i rep = absurd (never i)
opening_quiet lane seen phase.AsksState t a y i rep = absurd (never i)
opening_quiet lane seen (phase.AsksSecure j n) t a y i rep = absurd (never i)
opening_quiet lane seen (phase.AsksComplete j n) t a y i rep = absurd (never i)
opening_quiet lane seen (phase.AsksDrop j f) t a y i rep = absurd (never i)
opening_quiet lane seen phase.AsksClose t a y i rep = absurd (never i)
opening_quiet lane seen (phase.AsksLast z) t a y i rep = absurd (never i)
opening_quiet lane seen p t a y i rep = absurd rep

answer_taken : (lane : ℕ) (s : Side) (t : State) (y : AnyUnit) → receiving_event lane (got_as (on_answer_by s t y) y)
    ≡ []
answer_taken lane (side.Initiator p) t (unit.Accept c w a) = nothing_taken lane _ (unit.Accept c w a) refl
answer_taken lane (side.Initiator p) t (unit.Reject reason) = nothing_taken lane _ (unit.Reject reason) refl
answer_taken lane (side.Initiator p) t (unit.Abort reason) = nothing_taken lane _ (unit.Abort reason) refl
answer_taken lane (side.Initiator p) t y = refl
answer_taken lane (side.Responder own) t y = refl

within_taken : (lane : ℕ) (b : Bool) (w : Wanted) (y : AnyUnit) → receiving_event lane (got_as w y) ≡ []
    → receiving_event lane (got_as (if b then Aborts 3 else w) y) ≡ []
within_taken lane true w y e = refl
within_taken lane false w y e = e

pub answer_quiet : (lane : ℕ) (t : State) (y : AnyUnit)
    → receiving_event lane (got_as (called_for phase.ReadsAnswer t y) y) ≡ []
answer_quiet lane t y =
    let c : State = counted t (event.Unit y) in
    within_taken lane (c.left == 0) (on_answer_by c.side c y) y (answer_taken lane c.side c y)
