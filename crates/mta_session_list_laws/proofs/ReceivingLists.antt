-- The receiving half of a session's list keeps the rules, call by call, and owes nothing where a unit is got.
use Rattle.std.proofs.Common.{◌≡◌, ℕ, Bool, true, false, Some, None}
use Rattle.std.proofs.Common.{Ok, Err, List, [], ◌∷◌, refl, sym, ap, ◌∙◌}
use Rattle.mta_lane_send.specs.declared.state.SendState.{SendState}
use Rattle.mta_lane_recv.specs.declared.state.Last.{Last}
use Rattle.mta_units.specs.declared.unit.Unit.{Unit as AnyUnit}
use Rattle.mta_transfer_rules.specs.Lanes.{Halves}
use Rattle.mta_transfer_rules.specs.Receiving as r
use Rattle.mta_transfer_rules.specs.Receiving.{RecvEnd, RecvEvent}
use Rattle.mta_session.specs.declared.ask.Reply.{Reply}
use Rattle.mta_session.specs.declared.ask.Reply.TheVariants as reply
use Rattle.mta_session.specs.declared.event.Action.{Action}
use Rattle.mta_session.specs.declared.event.Action.TheVariants as action
use Rattle.mta_session.specs.declared.event.Event.{Event}
use Rattle.mta_session.specs.declared.event.Event.TheVariants as event
use Rattle.mta_session.specs.declared.phase.Phase.{Phase}
use Rattle.mta_session.specs.declared.phase.Phase.TheVariants as phase
use Rattle.mta_session.specs.State.{State}
use Rattle.mta_session.specs.Rank.{is_over}
use Rattle.mta_session.specs.Wanted.{with_received, restored}
use Rattle.mta_session.specs.Follows.{Follows, counted}
use Rattle.mta_session.specs.Fits.{AnswersAt}
use Rattle.mta_session_laws.specs.Runs.{Turn, IsTurn}
use Rattle.mta_session_laws.specs.Turning.{is_open, is_last_phase, called_for}
use Rattle.mta_session_laws.specs.TurningRecv.{told_by}
use Rattle.mta_session_laws.proofs.Opening.{wanted_in}
use Rattle.mta_session_laws.proofs.Whole.{is_ended}
use Rattle.mta_session_laws.specs.Order.{is_reading}
use Rattle.mta_transfer_laws.specs.Sessions.{SessionEvent, Got, Refused, receiving_event, recv_all}
use Rattle.mta_lane_match_laws.specs.Asks.{IsAskOf}
use Rattle.mta_lane_match_laws.proofs.Asking.{asks_are_of_phase}
use Rattle.mta_session_list_laws.specs.Calls.{step_told, look_told, told_as, got_as}
use Rattle.mta_session_list_laws.proofs.Found.{never}
use Rattle.mta_session_list_laws.proofs.Waiting.{goes_with, none_put, none_asked, put_answers, ask_answers}
use Rattle.mta_session_list_laws.proofs.Receiving.{Allowed, HandsOn}
use Rattle.mta_session_list_laws.proofs.ReceivingPhases.{NewRecv, RecvAt, first, RecvWaits, begin_waits, received_waits}
use Rattle.mta_session_list_laws.proofs.ReceivingPhases.{link_waits, unit_waits, bad_waits, agreed_waits}
use Rattle.mta_session_list_laws.proofs.ReceivingPhases.{accepted_waits}
use Rattle.mta_session_list_laws.proofs.ReceivingCalls.{heard_is, told_is, go_told, bad_told, over_told}
use Rattle.mta_session_list_laws.proofs.ReceivingEnds.{end_quiet, is_opening, opening_quiet, answer_quiet}

-- ---- what is asked of a list

abbrev pub RestsRecv : RecvEnd → SessionEvent → Type 0
RestsRecv b (Got y) = r.OwesNothing b
RestsRecv b (Refused y) = r.OwesNothing b
RestsRecv b y = Unit {0}

abbrev pub RecvKeeps : (lane : ℕ) → RecvEnd → List SessionEvent → Type 0
RecvKeeps lane b [] = Unit {0}
RecvKeeps lane b (y ∷ ys) = RestsRecv b y × Allowed b (receiving_event lane y)
    × RecvKeeps lane (recv_all b (receiving_event lane y)) ys

-- ---- phases

-- a session without its lane
abbrev pub is_unlisted : Phase → Bool
is_unlisted phase.ReadsOpen = true
is_unlisted phase.AsksPeer = true
is_unlisted phase.AsksStands = true
is_unlisted (phase.AsksNewLane again) = true
is_unlisted phase.AsksSpare = true
is_unlisted phase.AsksRoom = true
is_unlisted phase.AsksOldLane = true
is_unlisted phase.AsksBind = true
is_unlisted p = false

pub data Part (p : Phase) : Type 0 where
  at_opening : is_opening p ≡ true → Part p
  in_open : is_open p ≡ true → Part p
  at_last : is_last_phase p ≡ true → Part p
  at_none : is_unlisted p ≡ true → Part p

pub part : (p : Phase) → Part p
part phase.Begin = at_opening refl
part phase.AsksValues = at_opening refl
part phase.AsksRecovery = at_opening refl
part (phase.AsksReceiving state) = at_opening refl
part (phase.AsksResumed state) = at_opening refl
part phase.PutsOpen = at_opening refl
part phase.ReadsAnswer = at_opening refl
part phase.AsksAgree = at_opening refl
part phase.PutsAccept = at_opening refl
part phase.AsksDenied = at_last refl
part phase.AsksClose = at_last refl
part (phase.AsksLast y) = at_last refl
part (phase.PutsLast y) = at_last refl
part (phase.Ended y) = at_last refl
part phase.ReadsOpen = at_none refl
part phase.AsksPeer = at_none refl
part phase.AsksStands = at_none refl
part (phase.AsksNewLane again) = at_none refl
part phase.AsksSpare = at_none refl
part phase.AsksRoom = at_none refl
part phase.AsksOldLane = at_none refl
part phase.AsksBind = at_none refl
part p = in_open refl

pub none_here : (early : Type 0) (one : RecvEnd) (p : Phase) (t : State) (a : Action) (b : RecvEnd)
    → is_unlisted p ≡ true → RecvAt early one p t a b → ⊥
none_here early one phase.ReadsOpen t a b i k = k
none_here early one phase.AsksPeer t a b i k = k
none_here early one phase.AsksStands t a b i k = k
none_here early one (phase.AsksNewLane again) t a b i k = k
none_here early one phase.AsksSpare t a b i k = k
none_here early one phase.AsksRoom t a b i k = k
none_here early one phase.AsksOldLane t a b i k = k
none_here early one phase.AsksBind t a b i k = k
none_here early one p t a b i k = never i

abbrev pub Asked : Action → State → Type 0
Asked (action.Ask q) t = IsAskOf t.phase t q
Asked a t = Unit {0}

pub asked_next : (a : Action) (t : State) (e : Event) (new : State) → Follows t e a new → Asked a new
asked_next (action.Ask q) t e new f = asks_are_of_phase t e q new f
asked_next any0 t e new f = tt

abbrev pub is_early : Phase → Bool
is_early phase.Begin = true
is_early phase.AsksValues = true
is_early phase.AsksRecovery = true
is_early (phase.AsksReceiving state) = true
is_early p = false

-- ---- before a session is open

-- what the spool tells of the receiving half
abbrev pub Tells : Halves → Phase → Event → Type 0
Tells l (phase.AsksReceiving state) (event.Reply (reply.Receiving (Some z))) = (l.high ≡ z.0) × (l.last ≡ z.1)
Tells l p e = Unit {0}

module _ (l : Halves) (later : Type 0) where
  abbrev Waits : Phase → State → Event → Type 0
  Waits p t e = RecvWaits l later (wanted_in p (counted t e) e)

  begin_wants : (t : State) (e : Event) → NewRecv t.side t (first l later) → later → AnswersAt phase.Begin t e
      → Waits phase.Begin t e
  begin_wants t event.Go k next n = begin_waits l later t t.side k next
  begin_wants t event.Over k next n = tt
  begin_wants t any1 k next n = absurd (never n)

  values_wants : (t : State) (e : Event) → later → AnswersAt phase.AsksValues t e → Waits phase.AsksValues t e
  values_wants t (event.Reply (reply.Values (Some v))) next n = λ q. (refl, next)
  values_wants t (event.Reply (reply.Values None)) next n = tt
  values_wants t e next n = absurd n

  recovery_wants : (t : State) (e : Event) → later → AnswersAt phase.AsksRecovery t e → Waits phase.AsksRecovery t e
  recovery_wants t (event.Reply (reply.Recovery (Some v))) next n = λ q. (refl, next)
  recovery_wants t (event.Reply (reply.Recovery None)) next n = tt
  recovery_wants t e next n = absurd n

  receiving_wants : (t : State) (s : SendState) (e : Event)
      → AnswersAt (phase.AsksReceiving s) t e → Tells l (phase.AsksReceiving s) e → Waits (phase.AsksReceiving s) t e
  receiving_wants t s (event.Reply (reply.Receiving (Some z))) n tells =
      received_waits l later (with_received t z) s
      (ap (λ (h : ℕ). record { high = h; last = z.1; stage = r.Free; from = 0; acked = 0 }) (sym tells.0)
      ∙ ap (λ (m : Last). record { high = l.high; last = m; stage = r.Free; from = 0; acked = 0 }) (sym tells.1))
  receiving_wants t s (event.Reply (reply.Receiving None)) n tells = tt
  receiving_wants t s e n tells = absurd n

  resumed_wants : (t : State) (s : SendState) (e : Event)
      → t.recv ≡ first l later → AnswersAt (phase.AsksResumed s) t e → Waits (phase.AsksResumed s) t e
  resumed_wants t s (event.Reply (reply.Resumed (Ok (Some o)))) k n = link_waits l later (restored t s o.octets)
      t.side k
  resumed_wants t s (event.Reply (reply.Resumed (Ok None))) k n = tt
  resumed_wants t s (event.Reply (reply.Resumed (Err m))) k n = refl
  resumed_wants t s e k n = absurd n

  opens_wants : (t : State) (e : Event) → t.recv ≡ first l later → AnswersAt phase.PutsOpen t e → Waits phase.PutsOpen
      t e
  opens_wants t event.Go k n = λ q. (refl, k)
  opens_wants t event.Over k n = tt
  opens_wants t any1 k n = absurd (never n)

  answer_wants : (t : State) (e : Event) → t.recv ≡ first l later → AnswersAt phase.ReadsAnswer t e
      → Waits phase.ReadsAnswer t e
  answer_wants t (event.Unit y) k n = unit_waits l later (counted t (event.Unit y)) y k
  answer_wants t event.BadUnit k n = bad_waits l later (counted t event.BadUnit)
  answer_wants t event.Over k n = tt
  answer_wants t any1 k n = absurd (never n)

  agree_wants : (t : State) (e : Event) → t.recv ≡ first l later → AnswersAt phase.AsksAgree t e → Waits
      phase.AsksAgree t e
  agree_wants t (event.Reply (reply.LaneAgree z)) k n = agreed_waits l later t z k
  agree_wants t e k n = absurd n

  accept_wants : (t : State) (e : Event) → t.recv ≡ first l later → AnswersAt phase.PutsAccept t e
      → Waits phase.PutsAccept t e
  accept_wants t event.Go k n = accepted_waits l later t k
  accept_wants t event.Over k n = tt
  accept_wants t any1 k n = absurd (never n)

  pub opening_wants : (early : Type 0) (p : Phase) (t : State) (e : Event) (a : Action) (b : RecvEnd)
      → is_opening p ≡ true → RecvAt early (first l early) p t a b → (is_early p ≡ true → early → later)
      → AnswersAt p t e → Tells l p e → Waits p t e
  opening_wants early phase.Begin t e a b i k next n tells = begin_wants t e k.1 (next refl k.2) n
  opening_wants early phase.AsksValues t e a b i k next n tells = values_wants t e (next refl k.1) n
  opening_wants early phase.AsksRecovery t e a b i k next n tells = recovery_wants t e (next refl k.1) n
  opening_wants early (phase.AsksReceiving s) t e a b i k next n tells = receiving_wants t s e n tells
  opening_wants early (phase.AsksResumed s) t e a b i k next n tells = resumed_wants t s e k.1 n
  opening_wants early phase.PutsOpen t e a b i k next n tells = opens_wants t e k.1 n
  opening_wants early phase.ReadsAnswer t e a b i k next n tells = answer_wants t e k.1 n
  opening_wants early phase.AsksAgree t e a b i k next n tells = agree_wants t e k.1 n
  opening_wants early phase.PutsAccept t e a b i k next n tells = accept_wants t e k.1 n
  opening_wants early p t e a b i k next n tells = absurd (never i)

pub opening_first : (early : Type 0) (one : RecvEnd) (p : Phase) (t : State) (a : Action) (b : RecvEnd) → is_opening p
    ≡ true
    → RecvAt early one p t a b → b ≡ one
opening_first early one phase.Begin t a b i k = k.0
opening_first early one phase.AsksValues t a b i k = k.0
opening_first early one phase.AsksRecovery t a b i k = k.0
opening_first early one (phase.AsksReceiving s) t a b i k = k.0
opening_first early one (phase.AsksResumed s) t a b i k = k.0
opening_first early one phase.PutsOpen t a b i k = k.0
opening_first early one phase.ReadsAnswer t a b i k = k.0
opening_first early one phase.AsksAgree t a b i k = k.0
opening_first early one phase.PutsAccept t a b i k = k.0
opening_first early one p t a b i k = absurd (never i)

pub opening_going : (p : Phase) → is_opening p ≡ true → is_ended p ≡ false
opening_going (phase.Ended y) i = absurd (never i)
opening_going p i = refl

-- ---- what is heard in one call, but for what was put

abbrev pub heard : (lane : ℕ) → Action → Turn → (seen : ℕ) → Event → List RecvEvent
heard lane action.Read t seen (event.Unit y) = receiving_event lane (got_as (called_for t.before.phase t.before y) y)
heard lane (action.Ask q) t seen (event.Reply y) = receiving_event lane (told_as seen (step_told q y) (look_told q y))
heard lane a t seen e = []

-- a session before a call, where its list has this receiving end
pub record RecvHere (l : Halves) (early : Type 0) (lane : ℕ) (a : Action) (t : Turn) (b : RecvEnd) : Type 0 where
  pub is : IsTurn t
  pub waits : goes_with a t.before.phase ≡ true
  pub asked : Asked a t.before
  pub lane_is : is_last_phase t.before.phase ≡ false → t.before.lane ≡ lane
  pub at : RecvAt early (first l early) t.before.phase t.before a b

pub open_reads : (p : Phase) → is_open p ≡ true → goes_with action.Read p ≡ true → is_reading p ≡ true
open_reads phase.Begin i k = absurd (never i)
open_reads p i k = k

read_replied : (p : Phase) (t : State) (q : List ℕ) (y : Reply) → is_reading p ≡ true → told_by p t q (event.Reply y)
    ≡ []
read_replied phase.ReadsOpen t q y i = refl
read_replied phase.ReadsAnswer t q y i = refl
read_replied phase.Reads t q y i = refl
read_replied phase.ReadsCloseAck t q y i = refl
read_replied p t q y i = absurd (never i)

open_over : (p : Phase) → is_open p ≡ true → is_over p ≡ true → ⊥
open_over (phase.Ended y) i k = never i
open_over p i k = never k

pub open_not_last : (p : Phase) → is_open p ≡ true → is_last_phase p ≡ false
open_not_last phase.AsksDenied i = absurd (never i)
open_not_last phase.AsksClose i = absurd (never i)
open_not_last (phase.AsksLast y) i = absurd (never i)
open_not_last (phase.PutsLast y) i = absurd (never i)
open_not_last (phase.Ended y) i = absurd (never i)
open_not_last p i = refl

module _ (l : Halves) (early : Type 0) (lane : ℕ) where
  pub open_heard : (a : Action) (t : Turn) (seen : ℕ) (e : Event) (b : RecvEnd) (q : List ℕ) → RecvHere l early lane a
      t b
      → is_open t.before.phase ≡ true → HandsOn t.before.phase a q → AnswersAt t.before.phase t.before e
      → heard lane a t seen e ≡ told_by t.before.phase t.before q e
  open_heard (action.Put u) t seen event.Go b q k i h n = sym (go_told t.before.phase t.before q)
  open_heard (action.Put u) t seen event.Over b q k i h n = sym (over_told t.before.phase t.before q)
  open_heard (action.Put u) t seen event.BadUnit b q k i h n = sym (bad_told t.before.phase t.before q)
  open_heard (action.Put u) t seen (event.Unit y) b q k i h n =
      absurd (none_put t.before.phase t.before (event.Unit y) k.waits n refl)
  open_heard (action.Put u) t seen (event.Reply y) b q k i h n =
      absurd (never (put_answers t.before.phase t.before (event.Reply y) k.waits n))
  open_heard action.Read t seen (event.Unit y) b q k i h n =
      heard_is lane t.before.phase t.before q y i (open_reads t.before.phase i k.waits)
  open_heard action.Read t seen event.Go b q k i h n = sym (go_told t.before.phase t.before q)
  open_heard action.Read t seen event.Over b q k i h n = sym (over_told t.before.phase t.before q)
  open_heard action.Read t seen event.BadUnit b q k i h n = sym (bad_told t.before.phase t.before q)
  open_heard action.Read t seen (event.Reply y) b q k i h n =
      sym (read_replied t.before.phase t.before q y (open_reads t.before.phase i k.waits))
  open_heard (action.Ask a) t seen (event.Reply y) b q k i h n =
      told_is lane seen t.before.phase t.before a y q i k.asked
      (ask_answers t.before.phase t.before (event.Reply y) k.waits n) (k.lane_is (open_not_last t.before.phase i)) h
  open_heard (action.Ask a) t seen event.Go b q k i h n = sym (go_told t.before.phase t.before q)
  open_heard (action.Ask a) t seen event.Over b q k i h n = sym (over_told t.before.phase t.before q)
  open_heard (action.Ask a) t seen event.BadUnit b q k i h n = sym (bad_told t.before.phase t.before q)
  open_heard (action.Ask a) t seen (event.Unit y) b q k i h n =
      absurd (none_asked t.before.phase t.before (event.Unit y) k.waits n refl)
  open_heard (action.Finish y) t seen e b q k i h n = absurd (open_over t.before.phase i k.waits)

  opening_reads : (p : Phase) (t : State) (y : AnyUnit) → is_opening p ≡ true → AnswersAt p t (event.Unit y)
      → receiving_event lane (got_as (called_for p t y) y) ≡ []
  opening_reads phase.Begin t y i n = absurd (never n)
  opening_reads phase.ReadsAnswer t y i n = answer_quiet lane t y
  opening_reads phase.PutsOpen t y i n = absurd (never n)
  opening_reads phase.PutsAccept t y i n = absurd (never n)
  opening_reads phase.AsksValues t y i n = absurd n
  opening_reads phase.AsksRecovery t y i n = absurd n
  opening_reads (phase.AsksReceiving s) t y i n = absurd n
  opening_reads (phase.AsksResumed s) t y i n = absurd n
  opening_reads phase.AsksAgree t y i n = absurd n
  opening_reads p t y i n = absurd (never i)

  pub opening_heard : (a : Action) (t : Turn) (seen : ℕ) (e : Event) (b : RecvEnd) → RecvHere l early lane a t b
      → is_opening t.before.phase ≡ true → AnswersAt t.before.phase t.before e → heard lane a t seen e ≡ []
  opening_heard action.Read t seen (event.Unit y) b k i n = opening_reads t.before.phase t.before y i n
  opening_heard action.Read t seen any3 b k i n = refl
  opening_heard (action.Ask a) t seen (event.Reply y) b k i n =
      opening_quiet lane seen t.before.phase t.before a y i
      (ask_answers t.before.phase t.before (event.Reply y) k.waits n)
  opening_heard (action.Ask a) t seen any3 b k i n = refl
  opening_heard any0 t seen e b k i n = refl

  pub last_reads : (p : Phase) → is_last_phase p ≡ true → goes_with action.Read p ≡ true → ⊥
  last_reads phase.AsksDenied i k = never k
  last_reads phase.AsksClose i k = never k
  last_reads (phase.AsksLast y) i k = never k
  last_reads (phase.PutsLast y) i k = never k
  last_reads (phase.Ended y) i k = never k
  last_reads p i k = never i

  pub last_heard : (a : Action) (t : Turn) (seen : ℕ) (e : Event) (b : RecvEnd) → RecvHere l early lane a t b
      → is_last_phase t.before.phase ≡ true → AnswersAt t.before.phase t.before e → heard lane a t seen e ≡ []
  last_heard action.Read t seen e b k i n = absurd (last_reads t.before.phase i k.waits)
  last_heard (action.Ask a) t seen (event.Reply y) b k i n =
      end_quiet lane seen t.before.phase t.before a y i k.asked
      (ask_answers t.before.phase t.before (event.Reply y) k.waits n)
  last_heard (action.Ask a) t seen any3 b k i n = refl
  last_heard any0 t seen e b k i n = refl
