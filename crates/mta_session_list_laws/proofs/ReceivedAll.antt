-- All calls of a session: the receiving half of its list keeps the rules.
use Rattle.std.proofs.Common.{◌≡◌, ◌⊎◌, inl, inr, ℕ, ◌+◌, if◌then◌else◌, Bool, true, false}
use Rattle.std.proofs.Common.{Some, List, take, refl, sym, ap, subst, ◌∙◌}
use Rattle.mta_lane_send.specs.declared.state.SendState.{SendState}
use Rattle.mta_lane_recv.specs.declared.state.Last.{Last}
use Rattle.mta_transfer_rules.specs.Lanes.{Halves, Seen, lane_in}
use Rattle.mta_transfer_rules.specs.Receiving.{RecvEnd}
use Rattle.mta_session.specs.declared.ask.Ask.{Ask}
use Rattle.mta_session.specs.declared.ask.Ask.TheVariants as ask
use Rattle.mta_session.specs.declared.ask.Reply.TheVariants as reply
use Rattle.mta_session.specs.declared.event.Action.{Action}
use Rattle.mta_session.specs.declared.event.Action.TheVariants as action
use Rattle.mta_session.specs.declared.event.Event.{Event}
use Rattle.mta_session.specs.declared.event.Event.TheVariants as event
use Rattle.mta_session.specs.declared.event.Side.{Side}
use Rattle.mta_session.specs.declared.event.Side.TheVariants as side
use Rattle.mta_session.specs.declared.phase.Phase.{Phase}
use Rattle.mta_session.specs.declared.phase.Phase.TheVariants as phase
use Rattle.mta_session.specs.State.{State}
use Rattle.mta_session.specs.Wanted.{Wanted, Aborts, Rejects, Ends, Puts, Asks, Reads, Goes_on, Excepts, Never, begins}
use Rattle.mta_session.specs.Follows.{Does, counted}
use Rattle.mta_session.specs.Fits.{AnswersAt}
use Rattle.mta_session_laws.specs.Runs.{Turn, IsTurn}
use Rattle.mta_session_laws.specs.Turning.{is_open, is_last_phase}
use Rattle.mta_session_laws.proofs.Opening.{wanted_in}
use Rattle.mta_session_laws.proofs.Whole.{is_ended}
use Rattle.mta_lane_match_laws.specs.Asks.{IsAskOf}
use Rattle.mta_lane_match_laws.specs.Calls.{has_lane}
use Rattle.mta_lane_match_laws.proofs.Lanes.{lanes_stay}
use Rattle.mta_session_list_laws.specs.Calls.{step_told}
use Rattle.mta_session_list_laws.specs.Standing.{Looks, StandsAs, IsInTurn, ComesTrue}
use Rattle.mta_session_list_laws.proofs.Found.{never}
use Rattle.mta_session_list_laws.proofs.Waiting.{goes_with, does_at}
use Rattle.mta_session_list_laws.proofs.ReceivingPhases.{RecvAt}
use Rattle.mta_session_list_laws.proofs.ReceivingEnds.{is_opening}
use Rattle.mta_session_list_laws.proofs.ReceivingLists.{Part, at_opening, in_open, at_last, at_none}
use Rattle.mta_session_list_laws.proofs.ReceivingLists.{none_here, Asked, is_early, Tells, open_not_last}
use Rattle.mta_session_list_laws.proofs.ReceivedLists.{any_silent}

-- ---- the turn of the lock

asked_first : (q : Ask) (p : Phase) (a : Action) → a ≡ action.Ask q → p ≡ phase.Begin → goes_with a p ≡ true → ⊥
asked_first q p a e f i = never
    (subst (λ z. goes_with (action.Ask q) z ≡ true) f (subst (λ z. goes_with z p ≡ true) e i))

early_asks : (p : Phase) (q : Ask) (from seen : ℕ) → goes_with (action.Ask q) p ≡ true → is_early p ≡ true
    → IsInTurn p from seen → seen ≡ from
early_asks phase.Begin q from seen w i k = absurd (never w)
early_asks phase.AsksValues q from seen w i k = k
early_asks phase.AsksRecovery q from seen w i k = k
early_asks (phase.AsksReceiving s) q from seen w i k = k
early_asks p q from seen w i k = absurd (never i)

module _ (spells : List ℕ → Bool) (history : List Seen) where
  pub in_turn : (p : Phase) (a : Action) (e : Event) (from seen : ℕ) → ComesTrue spells history from seen p a e
      → goes_with a p ≡ true → is_early p ≡ true → seen ≡ from
  in_turn p (action.Ask q) (event.Reply y) from seen c w i = early_asks p q from seen w i c.0
  in_turn p (action.Ask q) any2 from seen c w i = c
  in_turn p any1 e from seen c w i = c

  -- what the spool told of the receiving half is so
  abbrev Half : (lane at : ℕ) → Halves
  Half lane at = lane_in lane (take (at + 1) history)

  told_so : (lane at from seen : ℕ) (s : SendState) (t : State) (q : Ask)
      (z : ℕ × Last) → q ≡ ask.Receiving t.lane → t.lane ≡ lane → seen ≡ at + 1
      → StandsAs spells history from seen q (reply.Receiving (Some z)) (step_told q (reply.Receiving (Some z)))
      → ((Half lane at).high ≡ z.0) × ((Half lane at).last ≡ z.1)
  told_so lane at from seen s t q z e f g k =
      let stands : Looks spells history from seen (ask.Receiving t.lane) (reply.Receiving (Some z)) =
      subst (λ w. StandsAs spells history from seen w (reply.Receiving (Some z))
      (step_told w (reply.Receiving (Some z)))) e k in
      subst (λ n. ((lane_in lane (take n history)).high ≡ z.0) × ((lane_in lane (take n history)).last ≡ z.1)) g
      (subst (λ n. ((lane_in n (take seen history)).high ≡ z.0) × ((lane_in n (take seen history)).last ≡ z.1)) f
      stands.told)

  tells_by : (lane at from seen : ℕ) (s : SendState) (z : ℕ × Last)
      (t : State) (a : Action) → (a_asked : t.phase ≡ phase.AsksReceiving s) → Asked a t
      → goes_with a (phase.AsksReceiving s) ≡ true → t.lane ≡ lane → seen ≡ at + 1
      → ComesTrue spells history from seen (phase.AsksReceiving s) a (event.Reply (reply.Receiving (Some z)))
      → ((Half lane at).high ≡ z.0) × ((Half lane at).last ≡ z.1)
  tells_by lane at from seen s z t (action.Ask q) p k w f g c =
      told_so lane at from seen s t q z (subst (λ y. IsAskOf y t q) p k) f g c.1
  tells_by lane at from seen s z t any7 p k w f g c = absurd (never w)

  pub tells : (p : Phase) (e : Event) (lane at from seen : ℕ) (t : State) (a : Action) → t.phase ≡ p → Asked a t
      → goes_with a p ≡ true → (is_last_phase p ≡ false → t.lane ≡ lane) → (is_early p ≡ true → seen ≡ at + 1)
      → ComesTrue spells history from seen p a e → Tells (Half lane at) p e
  tells (phase.AsksReceiving s) (event.Reply (reply.Receiving (Some z))) lane at from seen t a q k w f g c =
      tells_by lane at from seen s z t a q k w (f refl) (g refl) c
  tells p e lane at from seen t a q k w f g c = tt

-- ---- the lane

pub opening_not_last : (p : Phase) → is_opening p ≡ true → is_last_phase p ≡ false
opening_not_last phase.AsksDenied i = absurd (never i)
opening_not_last phase.AsksClose i = absurd (never i)
opening_not_last (phase.AsksLast y) i = absurd (never i)
opening_not_last (phase.PutsLast y) i = absurd (never i)
opening_not_last (phase.Ended y) i = absurd (never i)
opening_not_last p i = refl

pub open_has : (p : Phase) → is_open p ≡ true → has_lane p ≡ true
open_has phase.Puts i = refl
open_has phase.Reads i = refl
open_has phase.AsksDue i = refl
open_has phase.AsksBatch i = refl
open_has phase.AsksStart i = refl
open_has phase.AsksStillIdle i = refl
open_has (phase.AsksStep step) i = refl
open_has phase.AsksState i = refl
open_has (phase.AsksSecure k n) i = refl
open_has (phase.AsksComplete k n) i = refl
open_has (phase.AsksDrop k f) i = refl
open_has phase.PutsClose i = refl
open_has phase.ReadsCloseAck i = refl
open_has p i = absurd (never i)

pub opening_has : (p : Phase) → is_opening p ≡ true → (p ≡ phase.Begin) ⊎ (has_lane p ≡ true)
opening_has phase.Begin i = inl refl
opening_has phase.AsksValues i = inr refl
opening_has phase.AsksRecovery i = inr refl
opening_has (phase.AsksReceiving s) i = inr refl
opening_has (phase.AsksResumed s) i = inr refl
opening_has phase.PutsOpen i = inr refl
opening_has phase.ReadsAnswer i = inr refl
opening_has phase.AsksAgree i = inr refl
opening_has phase.PutsAccept i = inr refl
opening_has p i = absurd (never i)

abbrev LaneKept : State → Wanted → Type 0
LaneKept t (Aborts reason) = Unit {0}
LaneKept t (Rejects reason) = Unit {0}
LaneKept t (Ends y) = Unit {0}
LaneKept t (Puts y u) = u.lane ≡ t.lane
LaneKept t (Asks q u) = u.lane ≡ t.lane
LaneKept t (Reads u) = u.lane ≡ t.lane
LaneKept t (Goes_on u) = ⊥
LaneKept t (Excepts u f) = ⊥
LaneKept t Never = Unit {0}

if_kept : (t : State) (b : Bool) (w z : Wanted) → LaneKept t w → LaneKept t z → LaneKept t (if b then w else z)
if_kept t true w z p q = p
if_kept t false w z p q = q

begins_kept : (t : State) (s : Side) → LaneKept t (begins s t)
begins_kept t (side.Initiator p) = if_kept t p.recovering _ _ refl refl
begins_kept t (side.Responder own) = refl

pub first_kept : (t : State) (e : Event) → AnswersAt phase.Begin t e
    → LaneKept t (wanted_in phase.Begin (counted t e) e)
first_kept t event.Go n = begins_kept t t.side
first_kept t event.Over n = tt
first_kept t any1 n = absurd (never n)

pub does_kept : (t c : State) (w : Wanted) (a : Action) (new : State) → c.lane ≡ t.lane → LaneKept t w → Does c w a new
    → new.lane ≡ t.lane
does_kept t c (Puts y u) a new e k d = ap {A = State} (λ z. z.lane) d.1 ∙ k
does_kept t c (Asks q u) a new e k d = ap {A = State} (λ z. z.lane) d.1 ∙ k
does_kept t c (Reads u) a new e k d = ap {A = State} (λ z. z.lane) d.1 ∙ k
does_kept t c (Goes_on u) a new e k d = absurd k
does_kept t c (Excepts u f) a new e k d = absurd k
does_kept t c Never a new e k d = elim d [ ]
does_kept t c any2 a new e k d = ap {A = State} (λ z. z.lane) d.1 ∙ e

counted_lane : (t : State) (e : Event) → (counted t e).lane ≡ t.lane
counted_lane t event.Go = refl
counted_lane t any1 = refl

first_lane : (t : Turn) → IsTurn t → t.before.phase ≡ phase.Begin → t.after.lane ≡ t.before.lane
first_lane t is q =
    let answers : AnswersAt phase.Begin t.before t.event = subst (λ p. AnswersAt p t.before t.event) q is.answers in
    let does = does_at t t.event refl is (ap {A = Phase} is_ended q) in
    does_kept t.before (counted t.before t.event) (wanted_in phase.Begin (counted t.before t.event) t.event) t.action
    t.after
    (counted_lane t.before t.event) (first_kept t.before t.event answers)
    (subst (λ p. Does (counted t.before t.event) (wanted_in p (counted t.before t.event) t.event) t.action t.after) q
    does)

pub opening_lane : (t : Turn) → IsTurn t → (t.before.phase ≡ phase.Begin) ⊎ (has_lane t.before.phase ≡ true)
    → t.after.lane ≡ t.before.lane
opening_lane t is (inl q) = first_lane t is q
opening_lane t is (inr i) = (lanes_stay t.before t.event t.action t.after i is.follows).0

-- a session that goes on keeps its lane
pub lane_next : (early : Type 0) (one b : RecvEnd) (a : Action) (lane : ℕ) (t : Turn) → IsTurn t
    → RecvAt early one t.before.phase t.before a b → (is_last_phase t.before.phase ≡ false → t.before.lane ≡ lane)
    → Part t.before.phase → is_last_phase t.after.phase ≡ false → t.after.lane ≡ lane
lane_next early one b a lane t is k f (in_open i) n =
    (lanes_stay t.before t.event t.action t.after (open_has t.before.phase i) is.follows).0 ∙ f
    (open_not_last t.before.phase i)
lane_next early one b a lane t is k f (at_opening i) n =
    opening_lane t is (opening_has t.before.phase i) ∙ f (opening_not_last t.before.phase i)
lane_next early one b a lane t is k f (at_last i) n =
    absurd (never (sym n ∙ (any_silent t is i (is_ended t.before.phase) refl).last))
lane_next early one b a lane t is k f (at_none i) n = absurd (none_here early one t.before.phase t.before a b i k)
