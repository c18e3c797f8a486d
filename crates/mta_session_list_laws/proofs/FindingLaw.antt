-- What a session finds of octets is so, from the step that begins its list; and the whole of a good list.
use Rattle.std.proofs.Common.{◌≡◌, ◌⊎◌, inl, inr, ℕ, suc, ◌+◌, ◌*◌, ◌≤◌, if◌then◌else◌, Bool, true, false}
use Rattle.std.proofs.Common.{Option, Some, None, Ok, slice_get, List, [], ◌∷◌, ◌++◌, take}
use Rattle.std.proofs.Common.{refl, sym, ap, subst, ◌∙◌, arith}
use Rattle.mta_units.specs.declared.unit.OpenUnit.{OpenUnit}
use Rattle.mta_units.specs.declared.unit.Unit.{Unit as AnyUnit}
use Rattle.mta_transfer_rules.specs.Lanes as h
use Rattle.mta_transfer_rules.specs.Lanes.{Halves, SeenStep, Seen, On, Unopened, Open, lane_in, halves_after}
use Rattle.mta_transfer_rules.specs.Lanes.{unopened}
use Rattle.mta_transfer_rules.specs.Receiving as r
use Rattle.mta_transfer_rules.specs.Receiving.{RecvEnd, RecvEvent}
use Rattle.mta_transfer_rules.specs.Sending.{SendEnd}
use Rattle.mta_transfer_laws.specs.History.{IsOfLanes}
use Rattle.mta_transfer_laws.proofs.Histories.{upto-take}
use Rattle.mta_session.specs.declared.ask.Ask.{Ask}
use Rattle.mta_session.specs.declared.ask.Reply.{Reply}
use Rattle.mta_session.specs.declared.ask.Reply.TheVariants as reply
use Rattle.mta_session.specs.declared.event.Action.{Action}
use Rattle.mta_session.specs.declared.event.Action.TheVariants as action
use Rattle.mta_session.specs.declared.event.Event.{Event}
use Rattle.mta_session.specs.declared.event.Event.TheVariants as event
use Rattle.mta_session.specs.declared.event.InitiatorPlan.{InitiatorPlan}
use Rattle.mta_session.specs.declared.event.Side.{Side}
use Rattle.mta_session.specs.declared.event.Side.TheVariants as side
use Rattle.mta_session.specs.declared.peer.Peer.{Peer}
use Rattle.mta_session.specs.declared.phase.Phase.{Phase}
use Rattle.mta_session.specs.declared.phase.Phase.TheVariants as phase
use Rattle.mta_session.specs.State.{State}
use Rattle.mta_session.specs.Wanted.{Wanted, Aborts, Rejects, Ends, Puts, Asks, Reads, Goes_on, Excepts, Never, begins}
use Rattle.mta_session.specs.Wanted.{with_lane, answer_for}
use Rattle.mta_session.specs.Follows.{Does, counted}
use Rattle.mta_session.specs.Fits.{AnswersAt, FitsAt, HasCall, HasLine}
use Rattle.mta_session_laws.specs.Runs.{Turn, IsTurn}
use Rattle.mta_session_laws.specs.Turning.{called_for, is_last_phase}
use Rattle.mta_session_laws.proofs.Opening.{wanted_in}
use Rattle.mta_session_laws.proofs.Whole.{is_ended}
use Rattle.mta_transfer_laws.specs.Receivings.{AreTrue, pieces_behind}
use Rattle.mta_transfer_laws.specs.Sessions as x
use Rattle.mta_transfer_laws.specs.Sessions.{SessionEvent, Made, Looked, Got, Refused, Put, receiving_event}
use Rattle.mta_transfer_laws.specs.Sessions.{receiving_events}
use Rattle.mta_transfer_laws.specs.Sessions.{recv_all, send_all, sending_event, turn_after, answer_unit, answers_of}
use Rattle.mta_transfer_laws.specs.Sessions.{seen_after}
use Rattle.mta_transfer_laws.specs.Sessions.{Rests, RestsAt, SendOwesNothing}
use Rattle.mta_lane_match_laws.proofs.Lanes.{lanes_stay}
use Rattle.mta_lane_match_laws.specs.Calls.{has_lane}
use Rattle.mta_session_list_laws.specs.Abandons.{has_before, abandoned_upto, abandon_at, given_up, with_abandons}
use Rattle.mta_session_list_laws.specs.Calls.{StepOn, step_told, look_told, told_as, got_as, come_of}
use Rattle.mta_session_list_laws.specs.Laws.{IsPiece, IsIn}
use Rattle.mta_session_list_laws.specs.Laws.{SendOwesAt, SendOwesNothingAt, OwesAt, OwesNothingAt}
use Rattle.mta_session_list_laws.specs.Lists.{HasAt, step_for, step_by}
use Rattle.mta_session_list_laws.specs.Standing.{StandsAs, ComesTrue}
use Rattle.mta_session_list_laws.proofs.Found.{never}
use Rattle.mta_session_list_laws.proofs.Lanes.{lane_at, step_allowed, step_leads}
use Rattle.mta_session_list_laws.proofs.Waiting.{does_at, ask_answers}
use Rattle.mta_session_list_laws.proofs.Ordering.{is_some}
use Rattle.mta_session_list_laws.proofs.Receiving.{pending, run_allowed}
use Rattle.mta_session_list_laws.proofs.ReceivingPhases.{After, first, RecvAt}
use Rattle.mta_session_list_laws.proofs.ReceivingLists.{Part, at_opening, in_open, at_last, at_none, none_here}
use Rattle.mta_session_list_laws.proofs.ReceivingLists.{open_not_last, is_early, Tells, RecvHere, heard}
use Rattle.mta_session_list_laws.proofs.ReceivingLists.{last_heard}
use Rattle.mta_session_list_laws.proofs.ReceivedLists.{any_silent, event_goes}
use Rattle.mta_session_list_laws.proofs.ReceivedAll.{open_has, opening_has, opening_not_last}
use Rattle.mta_session_list_laws.proofs.SendingLaw.{accept_new}
use Rattle.mta_session_list_laws.proofs.Finding.{put_else}
use Rattle.mta_session_list_laws.proofs.FindingCalls.{pieces_all, FindKeeps, put_true, got_true, got_as_else, Behind}
use Rattle.mta_session_list_laws.proofs.FindingCalls.{FoundSo, else_found, More, reply_finds}

-- ---- one call

not_last_before : (t : Turn) → IsTurn t → (b : Bool) → is_last_phase t.before.phase ≡ b
    → is_last_phase t.after.phase ≡ false → is_last_phase t.before.phase ≡ false
not_last_before t is true e i = absurd (never (sym i ∙ (any_silent t is e (is_ended t.before.phase) refl).last))
not_last_before t is false e i = e

module _ (spells : List ℕ → Bool) (history : List Seen) (lane : ℕ) (allow : IsOfLanes spells history) (gen : ℕ)
    (l : Halves) (early later : Type 0) where
  abbrev pub So : (upto : ℕ) → List (List ℕ) → (n : ℕ) → List SessionEvent → Type 0
  So upto pieces n rest = FoundSo spells history lane allow gen upto pieces n rest

  abbrev pub Follow : Turn → (seen : ℕ) → List SessionEvent → Type 0
  Follow t seen rest =
      More spells history lane allow gen l early (λ z. After later (first l later) z t.action t.after)
      (is_last_phase t.after.phase ≡ false) seen rest

  pub record FindHere (a : Action) (t : Turn) (b c : RecvEnd) : Type 0 where
    pub here : RecvHere l early lane a t c
    pub gen_is : is_last_phase t.before.phase ≡ false → t.before.generation ≡ gen
    pub put : r.IsReceivingEnd b (pending a) c
    pub next : is_early t.before.phase ≡ true → early → later

  longer : (from seen : ℕ) (pieces : List (List ℕ)) (n : ℕ) (rest : List SessionEvent) → from ≤ seen
      → So from pieces n rest → So seen pieces n rest
  longer from seen pieces n rest le k =
      let b = k.before in record { before = omega (arith, le, b); tracks = k.tracks; owned = k.owned }

  module _ (a : Action) (t : Turn) (seen from : ℕ) (e : Event) (b c : RecvEnd) (pieces : List (List ℕ)) (n : ℕ)
      (k : FindHere a t b c) (q : t.event ≡ e) (told : Tells l t.before.phase e) where
    after : After later (first l later) (recv_all c (heard lane a t seen e)) t.action t.after
    after = (event_goes l early later lane a t seen e c k.here q told k.next).1

    before : is_last_phase t.after.phase ≡ false → is_last_phase t.before.phase ≡ false
    before i = not_last_before t k.here.is (is_last_phase t.before.phase) refl i

  -- nothing is told
  nothing_finds : (a : Action) (t : Turn) (seen from : ℕ) (e : Event) (b c : RecvEnd) (pieces : List (List ℕ)) (n : ℕ)
      (rest : List SessionEvent) → (k : FindHere a t b c) → t.event ≡ e → Tells l t.before.phase e → from ≤ seen
      → pending a ≡ [] → heard lane a t seen e ≡ []
      → (is_last_phase t.before.phase ≡ false → So from pieces n rest) → Follow t seen rest
      → FindKeeps spells lane b pieces rest
  nothing_finds a t seen from e b c pieces n rest k q told le none quiet found more =
      let same : c ≡ b = subst (λ z. r.IsReceivingEnd b z c) none k.put in
      more b pieces n
      (subst (λ z. After later (first l later) z t.action t.after) same
      (subst (λ z. After later (first l later) (recv_all c z) t.action t.after) quiet
      (after a t seen from e b c pieces n k q told)))
      (λ i. longer from seen pieces n rest le (found (before a t seen from e b c pieces n k q told i)))

  put_finds : (u : AnyUnit) (t : Turn) (seen from : ℕ) (e : Event) (b c : RecvEnd) (pieces : List (List ℕ)) (n : ℕ)
      (rest : List SessionEvent) → (k : FindHere (action.Put u) t b c) → t.event ≡ e → Tells l t.before.phase e
      → from ≤ seen → (is_last_phase t.before.phase ≡ false → So from pieces n (Put u ∷ rest)) → Follow t seen rest
      → FindKeeps spells lane b pieces (Put u ∷ rest)
  put_finds u t seen from e b c pieces n rest k q told le found more =
      let ran = run_allowed b c (pending (action.Put u)) k.put in
      let so = put_true spells b pieces (answer_unit u) in (
        so.0,
        subst (λ z. FindKeeps spells lane (recv_all b (answers_of (answer_unit u))) z rest) (sym so.1)
            (subst (λ z. FindKeeps spells lane z pieces rest) ran.1
            (more c pieces n (after (action.Put u) t seen from e b c pieces n k q told)
            (λ i. else_found spells history lane allow gen from seen pieces n (Put u) rest le
            (put_else spells history lane allow gen u)
            (found (before (action.Put u) t seen from e b c pieces n k q told i))))),
      )

  got_finds : (y : AnyUnit) (t : Turn) (seen from : ℕ) (b c : RecvEnd) (pieces : List (List ℕ)) (n : ℕ)
      (rest : List SessionEvent) → (k : FindHere action.Read t b c) → t.event ≡ event.Unit y
      → Tells l t.before.phase (event.Unit y) → from ≤ seen
      → (is_last_phase t.before.phase ≡ false
      → So from pieces n (got_as (called_for t.before.phase t.before y) y ∷ rest)) → Follow t seen rest
      → FindKeeps spells lane b pieces (got_as (called_for t.before.phase t.before y) y ∷ rest)
  got_finds y t seen from b c pieces n rest k q told le found more =
      let w : Wanted = called_for t.before.phase t.before y in
      let so = got_true spells lane b pieces w y in
      let same : c ≡ b = k.put in (
        so.0,
        subst (λ z. FindKeeps spells lane (recv_all b (receiving_event lane (got_as w y))) z rest) (sym so.1)
            (more (recv_all b (receiving_event lane (got_as w y))) pieces n
            (subst (λ z. After later (first l later) (recv_all z (receiving_event lane (got_as w y))) t.action t.after)
            same (after action.Read t seen from (event.Unit y) b c pieces n k q told))
            (λ i. else_found spells history lane allow gen from seen pieces n (got_as w y) rest le
            (got_as_else spells history lane allow gen w y)
            (found (before action.Read t seen from (event.Unit y) b c pieces n k q told i)))),
      )

  told_finds : (z : Ask) (y : Reply) (t : Turn) (seen from : ℕ) (b c : RecvEnd) (pieces : List (List ℕ)) (n : ℕ)
      (rest : List SessionEvent) → (k : FindHere (action.Ask z) t b c) → t.event ≡ event.Reply y
      → Tells l t.before.phase (event.Reply y) → StandsAs spells history from seen z y (step_told z y)
      → (is_last_phase t.before.phase ≡ false
      → So from pieces n (told_as seen (step_told z y) (look_told z y) ∷ rest)) → Follow t seen rest
      → Behind spells history lane allow gen seen rest → (i : Bool) → is_last_phase t.before.phase ≡ i
      → FindKeeps spells lane b pieces (told_as seen (step_told z y) (look_told z y) ∷ rest)
  told_finds z y t seen from b c pieces n rest k q told stands found more behind true i =
      let e : Event = event.Reply y in
      let y0 : SessionEvent = told_as seen (step_told z y) (look_told z y) in
      let same : c ≡ b = k.put in
      let answers : AnswersAt t.before.phase t.before e =
      subst (λ w. AnswersAt t.before.phase t.before w) q k.here.is.answers in
      let none : receiving_event lane y0 ≡ [] = last_heard l early lane (action.Ask z) t seen e c k.here i answers in
      subst (λ w. AreTrue spells b pieces w × FindKeeps spells lane (recv_all b w) (pieces_all pieces w) rest) (sym
      none) (
        tt,
        more b pieces n
            (subst (λ w. After later (first l later) w t.action t.after) same
            (subst (λ w. After later (first l later) (recv_all c w) t.action t.after) none
            (after (action.Ask z) t seen from e b c pieces n k q told)))
            (λ j. absurd (never (sym (before (action.Ask z) t seen from e b c pieces n k q told j) ∙ i))),
      )
  told_finds z y t seen from b c pieces n rest k q told stands found more behind false i =
      let e : Event = event.Reply y in
      let y0 : SessionEvent = told_as seen (step_told z y) (look_told z y) in
      let same : c ≡ b = k.put in
      let answers : AnswersAt t.before.phase t.before e =
      subst (λ w. AnswersAt t.before.phase t.before w) q k.here.is.answers in
      reply_finds spells history lane allow gen l early (λ w. After later (first l later) w t.action t.after)
      (is_last_phase t.after.phase ≡ false) t.before b pieces n from seen rest more z y
      (record {
        stands = stands;
        found = found i;
        after = subst (λ w. After later (first l later) (recv_all w (receiving_event lane y0)) t.action t.after) same
            (after (action.Ask z) t seen from e b c pieces n k q told);
        behind = behind;
      }) i k.here.asked (ask_answers t.before.phase t.before e k.here.waits answers) (k.here.lane_is i) (k.gen_is i)
      (subst (λ w. RecvAt early (first l early) t.before.phase t.before (action.Ask z) w) same k.here.at)

  same_length : (from seen : ℕ) → seen ≡ from → from ≤ seen
  same_length from seen e = omega (arith, e)

  pub come_finds : (a : Action) (t : Turn) (seen from : ℕ) (e : Event) (b c : RecvEnd) (pieces : List (List ℕ)) (n : ℕ)
      (rest : List SessionEvent) → FindHere a t b c → t.event ≡ e → Tells l t.before.phase e
      → ComesTrue spells history from seen t.before.phase a e
      → (is_last_phase t.before.phase ≡ false → So from pieces n (come_of a t seen e ++ rest)) → Follow t seen rest
      → Behind spells history lane allow gen seen rest → FindKeeps spells lane b pieces (come_of a t seen e ++ rest)
  come_finds (action.Put u) t seen from e b c pieces n rest k q told is found more behind =
      put_finds u t seen from e b c pieces n rest k q told (same_length from seen is) found more
  come_finds action.Read t seen from (event.Unit y) b c pieces n rest k q told is found more behind =
      got_finds y t seen from b c pieces n rest k q told (same_length from seen is) found more
  come_finds action.Read t seen from event.Go b c pieces n rest k q told is found more behind =
      nothing_finds action.Read t seen from event.Go b c pieces n rest k q told (same_length from seen is) refl refl
      found
      more
  come_finds action.Read t seen from event.BadUnit b c pieces n rest k q told is found more behind =
      nothing_finds action.Read t seen from event.BadUnit b c pieces n rest k q told (same_length from seen is) refl
      refl
      found more
  come_finds action.Read t seen from event.Over b c pieces n rest k q told is found more behind =
      nothing_finds action.Read t seen from event.Over b c pieces n rest k q told (same_length from seen is) refl refl
      found more
  come_finds action.Read t seen from (event.Reply y) b c pieces n rest k q told is found more behind =
      nothing_finds action.Read t seen from (event.Reply y) b c pieces n rest k q told (same_length from seen is) refl
      refl found more
  come_finds (action.Ask z) t seen from (event.Reply y) b c pieces n rest k q told is found more behind =
      told_finds z y t seen from b c pieces n rest k q told is.1 found more behind (is_last_phase t.before.phase) refl
  come_finds (action.Ask z) t seen from event.Go b c pieces n rest k q told is found more behind =
      nothing_finds (action.Ask z) t seen from event.Go b c pieces n rest k q told (same_length from seen is) refl refl
      found more
  come_finds (action.Ask z) t seen from (event.Unit y) b c pieces n rest k q told is found more behind =
      nothing_finds (action.Ask z) t seen from (event.Unit y) b c pieces n rest k q told (same_length from seen is) refl
      refl found more
  come_finds (action.Ask z) t seen from event.BadUnit b c pieces n rest k q told is found more behind =
      nothing_finds (action.Ask z) t seen from event.BadUnit b c pieces n rest k q told (same_length from seen is) refl
      refl found more
  come_finds (action.Ask z) t seen from event.Over b c pieces n rest k q told is found more behind =
      nothing_finds (action.Ask z) t seen from event.Over b c pieces n rest k q told (same_length from seen is) refl
      refl
      found more
  come_finds (action.Finish y) t seen from e b c pieces n rest k q told is found more behind =
      nothing_finds (action.Finish y) t seen from e b c pieces n rest k q told (same_length from seen is) refl refl
      found
      more

-- ---- all calls

abbrev GenKept : State → Wanted → Type 0
GenKept t (Aborts reason) = Unit {0}
GenKept t (Rejects reason) = Unit {0}
GenKept t (Ends y) = Unit {0}
GenKept t (Puts y u) = u.generation ≡ t.generation
GenKept t (Asks q u) = u.generation ≡ t.generation
GenKept t (Reads u) = u.generation ≡ t.generation
GenKept t (Goes_on u) = ⊥
GenKept t (Excepts u f) = ⊥
GenKept t Never = Unit {0}

if_gen : (t : State) (b : Bool) (w z : Wanted) → GenKept t w → GenKept t z → GenKept t (if b then w else z)
if_gen t true w z p q = p
if_gen t false w z p q = q

begins_gen : (t : State) (z : Side) → GenKept t (begins z t)
begins_gen t (side.Initiator p) = if_gen t p.recovering _ _ refl refl
begins_gen t (side.Responder own) = refl

first_gen : (t : State) (e : Event) → AnswersAt phase.Begin t e → GenKept t (wanted_in phase.Begin (counted t e) e)
first_gen t event.Go n = begins_gen t t.side
first_gen t event.Over n = tt
first_gen t any1 n = absurd (never n)

does_gen : (t c : State) (w : Wanted) (a : Action) (new : State) → c.generation ≡ t.generation → GenKept t w
    → Does c w a new → new.generation ≡ t.generation
does_gen t c (Puts y u) a new e k d = ap {A = State} (λ z. z.generation) d.1 ∙ k
does_gen t c (Asks q u) a new e k d = ap {A = State} (λ z. z.generation) d.1 ∙ k
does_gen t c (Reads u) a new e k d = ap {A = State} (λ z. z.generation) d.1 ∙ k
does_gen t c (Goes_on u) a new e k d = absurd k
does_gen t c (Excepts u f) a new e k d = absurd k
does_gen t c Never a new e k d = elim d [ ]
does_gen t c any2 a new e k d = ap {A = State} (λ z. z.generation) d.1 ∙ e

counted_gen : (t : State) (e : Event) → (counted t e).generation ≡ t.generation
counted_gen t event.Go = refl
counted_gen t any1 = refl

opening_gen : (t : Turn) → IsTurn t → (t.before.phase ≡ phase.Begin) ⊎ (has_lane t.before.phase ≡ true)
    → t.after.generation ≡ t.before.generation
opening_gen t is (inl q) =
    let answers : AnswersAt phase.Begin t.before t.event = subst (λ p. AnswersAt p t.before t.event) q is.answers in
    let does = does_at t t.event refl is (ap {A = Phase} is_ended q) in
    does_gen t.before (counted t.before t.event) (wanted_in phase.Begin (counted t.before t.event) t.event) t.action
    t.after (counted_gen t.before t.event) (first_gen t.before t.event answers)
    (subst (λ p. Does (counted t.before t.event) (wanted_in p (counted t.before t.event) t.event) t.action t.after) q
    does)
opening_gen t is (inr i) = (lanes_stay t.before t.event t.action t.after i is.follows).1

pub gen_next : (early : Type 0) (one b : RecvEnd) (a : Action) (gen : ℕ) (t : Turn) → IsTurn t
    → RecvAt early one t.before.phase t.before a b → (is_last_phase t.before.phase ≡ false → t.before.generation ≡ gen)
    → Part t.before.phase → is_last_phase t.after.phase ≡ false → t.after.generation ≡ gen
gen_next early one b a gen t is k f (in_open i) n =
    (lanes_stay t.before t.event t.action t.after (open_has t.before.phase i) is.follows).1 ∙ f
    (open_not_last t.before.phase i)
gen_next early one b a gen t is k f (at_opening i) n =
    opening_gen t is (opening_has t.before.phase i) ∙ f (opening_not_last t.before.phase i)
gen_next early one b a gen t is k f (at_last i) n =
    absurd (never (sym n ∙ (any_silent t is i (is_ended t.before.phase) refl).last))
gen_next early one b a gen t is k f (at_none i) n = absurd (none_here early one t.before.phase t.before a b i k)

-- ---- a list and the Abandons in it

or_behind : (z y : SessionEvent) (ws ys : List SessionEvent) → (IsIn z ws → IsIn z ys) → IsIn z (y ∷ ws)
    → IsIn z (y ∷ ys)
or_behind z y ws ys f (inl e) = inl e
or_behind z y ws ys f (inr k) = inr (f k)

module _ (history : List Seen) (lane : ℕ) (gen : ℕ) where
  abandon_else : (p k q : ℕ) (step : SeenStep) → IsPiece gen step → Made q lane step ≡ Made p lane (h.Abandon k) → ⊥
  abandon_else p k q (h.Secure g j n o) i e = cc
  abandon_else p k q (h.Complete g j n o) i e = cc
  abandon_else p k q (h.Drop g j) i e = cc
  abandon_else p k q step i e = absurd i

  behind_abandon : (e : SendEnd) (found : Option ℕ) (q : ℕ) (step : SeenStep) (ys : List SessionEvent)
      → IsPiece gen step → IsIn (Made q lane step) (abandon_at lane e found ++ ys) → IsIn (Made q lane step) ys
  behind_abandon e None q step ys i k = k
  behind_abandon e (Some p) q step ys i (inl w) = absurd (abandon_else p _ q step i w)
  behind_abandon e (Some p) q step ys i (inr k) = k

  pub in_without : (ys : List SessionEvent) (from : ℕ) (e : SendEnd) (q : ℕ) (step : SeenStep) → IsPiece gen step
      → IsIn (Made q lane step) (with_abandons history lane from e ys) → IsIn (Made q lane step) ys
  in_without [] from e q step i k = k
  in_without (y ∷ ys) from e q step i k =
      let found : Option ℕ = abandoned_upto history lane from e (has_before lane y) in
      let f : SendEnd = send_all (given_up e found) (sending_event lane y) in
      let ws : List SessionEvent = with_abandons history lane (seen_after lane from y) f ys in
      or_behind (Made q lane step) y ws ys (λ w. in_without ys (seen_after lane from y) f q step i w)
      (behind_abandon e found q step (y ∷ ws) i k)

both_true : (spells : List ℕ → Bool) (b : RecvEnd) (pieces : List (List ℕ)) (xs ys : List RecvEvent)
    → AreTrue spells b pieces xs → AreTrue spells (recv_all b xs) (pieces_all pieces xs) ys
    → AreTrue spells b pieces (xs ++ ys)
both_true spells b pieces [] ys p q = q
both_true spells b pieces (v ∷ vs) ys p q =
    (p.0, both_true spells (r.recv_after b v) (pieces_behind pieces v) vs ys p.1 q)

pub keeps_true : (spells : List ℕ → Bool) (lane : ℕ) (b : RecvEnd) (pieces : List (List ℕ)) (ys : List SessionEvent)
    → FindKeeps spells lane b pieces ys → AreTrue spells b pieces (receiving_events lane ys)
keeps_true spells lane b pieces [] k = tt
keeps_true spells lane b pieces (y ∷ ys) k =
    both_true spells b pieces (receiving_event lane y) (receiving_events lane ys) k.0
    (keeps_true spells lane (recv_all b (receiving_event lane y)) (pieces_all pieces (receiving_event lane y)) ys k.1)

-- ---- where a list begins

module _ (spells : List ℕ → Bool) (history : List Seen) (at : ℕ) (allow : IsOfLanes spells history) where
  abbrev half_at : ℕ → Halves
  half_at lane = lane_in lane (take (at + 1) history)

  behind : (lane : ℕ) (step : SeenStep) → slice_get history at ≡ Some (On lane step)
      → half_at lane ≡ halves_after (lane_at spells history lane allow.allowed at) step
  behind lane step is =
      let e : at + 1 ≡ suc at = omega arith in
      sym (upto-take history lane (at + 1) (omega arith))
      ∙ ap (λ (n : ℕ). lane_at spells history lane allow.allowed n) e
      ∙ step_leads spells history lane allow.allowed at step is

  -- the lane is open behind the step that begins the list, in this generation
  opened_so : (lane : ℕ) (a : Bool) (sz w : ℕ) → slice_get history at ≡ Some (On lane (h.LaneOpen a sz w))
      → ((half_at lane).phase ≡ Unopened → ⊥) × ((half_at lane).generation ≡ 1)
  opened_so lane a sz w is =
      let there = behind lane (h.LaneOpen a sz w) is in (
        (λ u. let c : Open ≡ Unopened = sym (ap (λ (z : Halves). z.phase) there) ∙ u in absurd (not_so c)),
        ap (λ (z : Halves). z.generation) there,
      )
    where
      not_so : Open ≡ Unopened → ⊥
      not_so e = cc

  bound_so : (lane g : ℕ) → slice_get history at ≡ Some (On lane (h.Bind g))
      → ((half_at lane).phase ≡ Unopened → ⊥) × ((half_at lane).generation ≡ g)
  bound_so lane g is =
      let there = behind lane (h.Bind g) is in
      let may = step_allowed spells history lane allow.allowed at (h.Bind g) is in (
        (λ u. let c : Open ≡ Unopened = sym may.0 ∙ sym (ap (λ (z : Halves). z.phase) there) ∙ u in absurd (not_so c)),
        ap (λ (z : Halves). z.generation) there,
      )
    where
      not_so : Open ≡ Unopened → ⊥
      not_so e = cc

  abbrev Begins : (lane generation : ℕ) → Type 0
  Begins lane g = ((half_at lane).phase ≡ Unopened → ⊥) × (g ≡ (half_at lane).generation)

  pub planned_so : (p : InitiatorPlan) → HasAt history at (step_for p) → (p.recovering ≡ false → p.generation ≡ 1)
      → Begins p.lane p.generation
  planned_so p is one = by_plan p.recovering refl
    where
      by_plan : (b : Bool) → p.recovering ≡ b → Begins p.lane p.generation
      by_plan true e =
          let k = bound_so p.lane p.generation (subst (λ b. HasAt history at (record {
            lane = p.lane;
            step = if b then h.Bind p.generation else h.LaneOpen false (1024 * p.checkpoint) p.window;
          })) e is) in (k.0, sym k.1)
      by_plan false e =
          let k = opened_so p.lane false (1024 * p.checkpoint) p.window (subst (λ b. HasAt history at (record {
            lane = p.lane;
            step = if b then h.Bind p.generation else h.LaneOpen false (1024 * p.checkpoint) p.window;
          })) e is) in (k.0, one e ∙ sym k.1)

  with_gen : (t : State) (o : Option OpenUnit) (p : Option Peer) (n : ℕ) → HasCall t.side o → HasLine p
      → (with_lane t o p n).generation ≡ 1
  with_gen t (Some o) (Some p) n called line = refl
  with_gen t (Some o) None n called line = absurd line
  with_gen t None p n called line = absurd (no_call t.side called)
    where
      no_call : (z : Side) → HasCall z None → ⊥
      no_call (side.Initiator p) k = k
      no_call (side.Responder own) k = k

  some_is : (y z : StepOn) → Some y ≡ Some z → y ≡ z
  some_is y z e = cc

  pub responds_so : (p : Phase) (t : State) (e : Event) (a : Action) (new : State) (y : StepOn)
      → step_by p e new ≡ Some y → HasAt history at y → FitsAt p t → Does (counted t e) (wanted_in p (counted t e) e) a
      new
      → Begins new.lane new.generation
  responds_so (phase.AsksNewLane again) t (event.Reply (reply.LaneOpen (Ok lane))) a new y q is f d =
      let v : State = with_lane t t.opened t.line lane in
      let same = accept_new t v (answer_for v.side v.opened v.line) a new d in
      let k = opened_so new.lane true (1024 * new.checkpoint) new.window
      (subst (λ z. HasAt history at z) (sym (some_is _ y q)) is) in (
        k.0,
        ap (λ (z : State). z.generation) same ∙ with_gen t t.opened t.line lane f.0.1 f.1 ∙ sym k.1,
      )
  responds_so phase.AsksBind t (event.Reply (reply.Bind (Ok generation))) a new y q is f d =
      let k = bound_so new.lane generation (subst (λ z. HasAt history at z) (sym (some_is _ y q)) is) in
      (k.0, ap (λ (z : State). z.generation) d.1 ∙ sym k.1)
  responds_so p t e a new y q is f d = elim (is_some (step_by p e new) y q) [ ]

-- what is owed before a unit is got, of both halves
rests_at : (v : x.Turn) (a : SendEnd) (b : RecvEnd) (y : SessionEvent) → SendOwesAt v a y → OwesAt b y
    → RestsAt v a b y
rests_at v a b (Got u) p q = (p, q)
rests_at v a b (Refused u) p q = (p, q)
rests_at v a b any3 p q = tt

pub rests : (lane : ℕ) (v : x.Turn) (a : SendEnd) (b : RecvEnd) (ys : List SessionEvent) → SendOwesNothingAt lane v a ys
    → OwesNothingAt lane b ys → Rests lane v a b ys
rests lane v a b [] p q = tt
rests lane v a b (y ∷ ys) p q = (
  rests_at v a b y p.0 q.0,
  rests lane (turn_after v y) (send_all a (sending_event lane y)) (recv_all b (receiving_event lane y)) ys p.1 q.1,
)
