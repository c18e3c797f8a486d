-- What a session wants before it is open, and at its end: what its list's sending end is then.
use Rattle.std.proofs.Common.{◌≡◌, inl, ℕ, ◌*◌, ◌==◌, ◌&&◌, ◌||◌, not, if◌then◌else◌, Bool, true, false}
use Rattle.std.proofs.Common.{Option, Some, None, Result, Ok, Err, List, [], refl, sym, ap, subst, ◌∙◌}
use Rattle.std.specs.Str.{bytes_eq}
use Rattle.mta_lane_send.specs.declared.state.SendState.{SendState}
use Rattle.mta_lane_send.specs.declared.state.SendState.TheVariants as state
use Rattle.mta_lane_send.specs.Half.{is_idle, is_ending, last_of}
use Rattle.mta_rtse.specs.declared.types.Answer.{Answer}
use Rattle.mta_rtse.specs.declared.types.Answer.TheVariants as answer
use Rattle.mta_units.specs.declared.unit.Unit.{Unit as AnyUnit}
use Rattle.mta_units.specs.declared.unit.Unit.TheVariants as unit
use Rattle.mta_transfer_rules.specs.Lanes.{Halves}
use Rattle.mta_transfer_rules.specs.Units.{LaneUnit}
use Rattle.mta_transfer_rules.specs.Units as u
use Rattle.mta_transfer_rules.specs.Sending as s
use Rattle.mta_transfer_rules.specs.Sending.{SendEnd, SendEvent, SendStep, stage_got, stage_on_link}
use Rattle.mta_records.specs.declared.fault.StepFault.{StepFault}
use Rattle.mta_session.specs.declared.ask.Reply.TheVariants as reply
use Rattle.mta_session.specs.declared.event.Action.{Action}
use Rattle.mta_session.specs.declared.event.Event.{Event}
use Rattle.mta_session.specs.declared.event.Event.TheVariants as event
use Rattle.mta_session.specs.declared.event.InitiatorPlan.{InitiatorPlan}
use Rattle.mta_session.specs.declared.event.Side.{Side}
use Rattle.mta_session.specs.declared.event.Side.TheVariants as side
use Rattle.mta_session.specs.declared.phase.Phase.{Phase}
use Rattle.mta_session.specs.declared.phase.Phase.TheVariants as phase
use Rattle.mta_session.specs.Sending.{is_discard_put}
use Rattle.mta_session.specs.State.{State, is_initiator}
use Rattle.mta_session.specs.Wanted.{Wanted, Aborts}
use Rattle.mta_session.specs.Wanted.{begins, answers_link, puts_accept, on_received, restored, on_abort, starts}
use Rattle.mta_session.specs.Wanted.{on_values, is_refused_value, is_same_reference, on_accept, on_reject, on_answer_by}
use Rattle.mta_session.specs.Wanted.{after_accept, within, on_agreed, with_received}
use Rattle.mta_session.specs.Follows.{counted}
use Rattle.mta_session.specs.Fits.{FitsAt, AnswersAt, HasSize}
use Rattle.mta_session_laws.specs.Turning.{kept, listed, called_for}
use Rattle.mta_session_laws.proofs.Opening.{wanted_in}
use Rattle.mta_session_laws.proofs.Linking.{eq_of}
use Rattle.mta_transfer_laws.specs.Sessions.{sending_event, answer_unit, gots_of, send_all}
use Rattle.mta_session_list_laws.specs.Calls.{got_as}
use Rattle.mta_session_list_laws.proofs.Found.{never, both}
use Rattle.mta_session_list_laws.proofs.ReceivingEnds.{is_opening}
use Rattle.mta_session_list_laws.proofs.SendingLeft.{none_heard}
use Rattle.mta_session_list_laws.proofs.SendingOpen.{denied_at, sent_at}
use Rattle.mta_session_list_laws.proofs.SendingPhases.{one, HasHalf, IsSide, HasValues, Has, NewSend, SendAt}
use Rattle.mta_session_list_laws.proofs.SendingPhases.{SendWaits, if_waits}

-- ---- the list's end where the link is answered

kept_idle : (st : SendState) (os x : List ℕ) → is_idle st ≡ true → kept st os x ≡ os
kept_idle (state.Idle l) os x i = refl
kept_idle any0 os x i = absurd (never i)

kept_same : (st : SendState) (os x : List ℕ) → x ≡ os → kept st os x ≡ os
kept_same (state.Idle l) os x q = refl
kept_same any0 os x q = q

-- Accept changes no stage of a link on which nothing was done
got_accept : (st : SendState) → stage_got (stage_on_link st) u.Accept ≡ stage_on_link st
got_accept (state.Idle l) = refl
got_accept any0 = refl

or_true : (b : Bool) → (b || true) ≡ true
or_true true = refl
or_true false = refl

none_accepts : (e : SendEnd) (step : SendStep) → s.IsCalledBy e step u.Accept → ⊥
none_accepts e (s.Start octets) c = c
none_accepts e any1 c = c

some_is : (y z : LaneUnit) → Some y ≡ Some z → y ≡ z
some_is y z e = cc

-- while the spool is asked for the lane
abbrev pub is_soon : Phase → Bool
is_soon phase.Begin = true
is_soon phase.AsksValues = true
is_soon phase.AsksRecovery = true
is_soon (phase.AsksReceiving st) = true
is_soon (phase.AsksResumed st) = true
is_soon p = false

-- (a unit that is got is `answer_hears`)
abbrev pub is_unit : Event → Bool
is_unit (event.Unit y) = true
is_unit e = false

module _ (l : Halves) (size window : ℕ) (accepted : Bool) where
  abbrev first : SendEnd
  first = one l size window accepted

  abbrev Valued : State → Type 0
  Valued t = (size ≡ 1024 * t.checkpoint) × (window ≡ t.window)

  accepted_is : (t : State) → HasHalf l size window accepted t → HasSize t → Valued t
      → s.got first u.Accept ≡ listed (record t.send { accepted = true }) (Some u.Accept) l.octets
  accepted_is t h z v =
      let a : (accepted || true) ≡ true = or_true accepted in
      let g : stage_got (stage_on_link l.state) u.Accept ≡ stage_on_link l.state = got_accept l.state in
      let st : t.send.state ≡ l.state = h.0 in
      let os : kept t.send.state l.octets t.send.octets ≡ l.octets = h.1 in
      let sg : t.send.stage ≡ stage_on_link l.state = h.2 in
      let si : t.send.size ≡ size = z.0 ∙ sym v.0 in
      let wi : t.send.window ≡ window = z.1 ∙ sym v.1 in
      cc

  linked_is : (t : State) → HasHalf l size window accepted t → HasSize t → Valued t → t.send.accepted ≡ true
      → accepted ≡ true → first ≡ listed t.send None l.octets
  linked_is t h z v a b =
      let st : t.send.state ≡ l.state = h.0 in
      let os : kept t.send.state l.octets t.send.octets ≡ l.octets = h.1 in
      let sg : t.send.stage ≡ stage_on_link l.state = h.2 in
      let si : t.send.size ≡ size = z.0 ∙ sym v.0 in
      let wi : t.send.window ≡ window = z.1 ∙ sym v.1 in
      cc

  -- ---- what the spool tells

  abbrev pub SendTells : Phase → State → Event → Type 0
  SendTells phase.AsksValues t (event.Reply (reply.Values (Some v))) =
      v.agreed ≡ true → (size ≡ 1024 * v.checkpoint) × (window ≡ v.window)
  SendTells phase.AsksRecovery t (event.Reply (reply.Recovery (Some st))) = l.state ≡ st
  SendTells (phase.AsksResumed st) t (event.Reply (reply.Resumed (Ok (Some o)))) = l.octets ≡ o.octets
  SendTells phase.AsksAgree t (event.Reply (reply.LaneAgree (Ok z))) = Valued t
  SendTells p t e = Unit {0}

  module _ (later : Type 0) where
    abbrev Waits : SendEnd → Wanted → Type 0
    Waits mid w = SendWaits l size window accepted later mid w

    abbrev ifs : (mid : SendEnd) (c : Bool) (w z : Wanted) → (c ≡ true → Waits mid w) → (c ≡ false → Waits mid z)
        → Waits mid (if c then w else z)
    ifs mid c w z p q = if_waits l size window accepted later mid c w z p q

    pub accept_waits : (t : State) (a : Option Answer) → Has l size window accepted t → accepted ≡ true
        → Waits first (puts_accept t a)
    accept_waits t (Some a) h i = (refl, (refl, h, i))
    accept_waits t None h i = tt

    link_waits : (t : State) (z : Side) → Has l size window accepted t → accepted ≡ not (is_initiator z)
        → Waits first (answers_link t z)
    link_waits t (side.Initiator p) h i = (refl, (refl, h))
    link_waits t (side.Responder own) h i = accept_waits t _ h i

    begin_waits : (t : State) (z : Side) → NewSend l size window accepted z t → IsSide l size window accepted t → later
        → Waits first (begins z t)
    begin_waits t (side.Initiator p) k i n = ifs first p.recovering _ _ (λ b. (refl, i, n)) (λ b. (refl, (refl, k b)))
    begin_waits t (side.Responder own) k i n = absurd k

    received_waits : (t : State) (st : SendState) → HasValues l size window accepted t → l.state ≡ st → later
        → Waits first (on_received t st)
    received_waits t st v e n =
        ifs first (is_idle st) _ _
        (λ i. link_waits (restored t st []) t.side
        ((sym e, kept_idle st l.octets [] i, ap stage_on_link (sym e)), v) v.2)
        (λ i. (refl, v, e, n))

    starts_waits : (t : State) → HasHalf l size window accepted t → HasSize t → Valued t
        → Waits (s.got first u.Accept) (starts t)
    starts_waits t h z v = record {
      heard = Some u.Accept;
      before = l.octets;
      is = accepted_is t h z v;
      calm =
          inl (λ y step q c. none_accepts (s.got first u.Accept) step
          (subst (λ w. s.IsCalledBy (s.got first u.Accept) step w) (sym (some_is u.Accept y q)) c));
    }

    -- a unit that is answered by an Abort is not taken
    abbrev Hears : ℕ → Wanted → AnyUnit → Type 0
    Hears lane w y = Waits (send_all first (sending_event lane (got_as w y))) w

    if_hears : (lane : ℕ) (y : AnyUnit) (c : Bool) (w z : Wanted) → (c ≡ true → Hears lane w y)
        → (c ≡ false → Hears lane z y) → Hears lane (if c then w else z) y
    if_hears lane y true w z p q = p refl
    if_hears lane y false w z p q = q refl

    value_hears : (lane : ℕ) (t : State) (c w : ℕ) (a : Answer) → Has l size window accepted t
        → Hears lane (on_values t c w) (unit.Accept c w a)
    value_hears lane t c w a h =
        if_hears lane (unit.Accept c w a) (is_refused_value t c w) _ _ (λ b. tt)
        (λ b. if_hears lane (unit.Accept c w a) t.agreed _ _ (λ i. starts_waits t h.0 h.1.0 (h.1.1 i))
        (λ i. (refl, h.0, (refl, refl))))

    accept_hears : (lane : ℕ) (p : InitiatorPlan) (t : State) (c w : ℕ) (a : Answer) → Has l size window accepted t
        → Hears lane (on_accept p t c w a) (unit.Accept c w a)
    accept_hears lane p t c w (answer.Bind name password) h =
        if_hears lane _ p.recovering _ _ (λ b. tt)
        (λ b. if_hears lane _ (bytes_eq name p.peer && bytes_eq password p.expected_password) _ _
        (λ i. value_hears lane t c w (answer.Bind name password) h) (λ i. tt))
    accept_hears lane p t c w (answer.Recover reference) h =
        if_hears lane _ (p.recovering && is_same_reference reference p.reference) _ _
        (λ b. value_hears lane t c w (answer.Recover reference) h) (λ b. tt)

    not_true : (b : Bool) → not b ≡ true → b ≡ false
    not_true true e = absurd (never e)
    not_true false e = refl

    rejected_at : (t : State) (reason : ℕ) → HasHalf l size window accepted t
        → ((reason == 1) && not (is_idle t.send.state)) ≡ true
        → s.MayMake (send_all first (gots_of (answer_unit (unit.Reject reason)))) s.Denied
    rejected_at t reason h i =
        let parts = both (reason == 1) (not (is_idle t.send.state)) i in
        let live : is_idle l.state ≡ false = ap is_idle (sym h.0) ∙ not_true (is_idle t.send.state) parts.1 in
        subst (λ r. s.MayMake (send_all first (gots_of (answer_unit (unit.Reject r)))) s.Denied)
        (sym (eq_of reason 1 parts.0)) (u.CannotRecover, refl, live)

    reject_hears : (lane : ℕ) (p : InitiatorPlan) (t : State) (reason : ℕ) → HasHalf l size window accepted t
        → Hears lane (on_reject p t reason) (unit.Reject reason)
    reject_hears lane p t reason h =
        if_hears lane (unit.Reject reason) ((reason == 1) && not (is_idle t.send.state)) _ _
        (λ b. rejected_at t reason h b)
        (λ b. if_hears lane (unit.Reject reason) ((reason == 1) || not p.recovering) _ _ (λ c. tt) (λ c. tt))

    abort_hears : (lane : ℕ) (t : State) (reason : ℕ) → HasHalf l size window accepted t
        → Hears lane (on_abort t reason) (unit.Abort reason)
    abort_hears lane t reason h =
        if_hears lane (unit.Abort reason) ((reason == 2) && not (is_idle t.send.state)) _ _
        (λ c. denied_at lane first t.send.state reason (sym h.0) c)
        (λ c. if_hears lane (unit.Abort reason)
        ((reason == 7) && is_ending t.send.state (last_of t.send.state)
        && is_discard_put t.send.stage (last_of t.send.state)) _ _
        (λ d. sent_at lane first t.send.state t.send.stage reason (sym h.0) (sym h.2) d) (λ d. tt))

    by_answer : (lane : ℕ) (z : Side) (t : State) (y : AnyUnit) → Has l size window accepted t
        → Hears lane (on_answer_by z t y) y
    by_answer lane (side.Initiator p) t (unit.Accept c w a) h = accept_hears lane p t c w a h
    by_answer lane (side.Initiator p) t (unit.Reject reason) h = reject_hears lane p t reason h.0
    by_answer lane (side.Initiator p) t (unit.Abort reason) h = abort_hears lane t reason h.0
    by_answer lane (side.Initiator p) t y h = tt
    by_answer lane (side.Responder own) t y h = tt

    pub answer_hears : (lane : ℕ) (t : State) (y : AnyUnit) → Has l size window accepted t
        → Hears lane (called_for phase.ReadsAnswer t y) y
    answer_hears lane t y h =
        let c : State = counted t (event.Unit y) in
        if_hears lane y (c.left == 0) (Aborts 3) (on_answer_by c.side c y) (λ b. tt)
        (λ b. by_answer lane c.side c y h)

    bad_waits : (mid : SendEnd) (t : State) → Waits mid (within t (Aborts 4))
    bad_waits mid t = ifs mid (t.left == 0) (Aborts 3) (Aborts 4) (λ b. tt) (λ b. tt)

    agreed_waits : (t : State) (y : Result (Unit {0}) StepFault) → HasHalf l size window accepted t → HasSize t
        → SendTells phase.AsksAgree t (event.Reply (reply.LaneAgree y)) → Waits (s.got first u.Accept) (on_agreed t y)
    agreed_waits t (Ok z) h v tells = starts_waits t h v tells
    agreed_waits t (Err f) h v tells = tt

    accepted_waits : (t : State) → first ≡ listed t.send None l.octets → Waits first (after_accept t)
    accepted_waits t e =
        ifs first t.twa _ _
        (λ b. ifs first (is_idle t.send.state) _ _
        (λ i. record { heard = None; before = l.octets; is = e; may = tt; left = inl (none_heard first refl) })
        (λ i. (
          refl,
          record { heard = None; before = l.octets; is = e; may = tt; left = inl (none_heard first refl) },
        )))
        (λ b. record { heard = None; before = l.octets; is = e; calm = inl (none_heard first refl) })

    -- ---- by phase

    begin_wants : (t : State) (e : Event) → NewSend l size window accepted t.side t → IsSide l size window accepted t
        → later → AnswersAt phase.Begin t e → Waits first (wanted_in phase.Begin (counted t e) e)
    begin_wants t event.Go k i next n = begin_waits t t.side k i next
    begin_wants t event.Over k i next n = tt
    begin_wants t any1 k i next n = absurd (never n)

    values_wants : (t : State) (e : Event) → IsSide l size window accepted t → later → AnswersAt phase.AsksValues t e
        → SendTells phase.AsksValues t e → Waits first (wanted_in phase.AsksValues (counted t e) e)
    values_wants t (event.Reply (reply.Values (Some v))) i next n tells = (refl, ((refl, refl), tells, i), next)
    values_wants t (event.Reply (reply.Values None)) i next n tells = tt
    values_wants t e i next n tells = absurd n

    recovery_wants : (t : State) (e : Event) → HasValues l size window accepted t → later
        → AnswersAt phase.AsksRecovery t e → SendTells phase.AsksRecovery t e
        → Waits first (wanted_in phase.AsksRecovery (counted t e) e)
    recovery_wants t (event.Reply (reply.Recovery (Some v))) k next n tells = (refl, k, tells, next)
    recovery_wants t (event.Reply (reply.Recovery None)) k next n tells = tt
    recovery_wants t e k next n tells = absurd n

    receiving_wants : (t : State) (st : SendState) (e : Event) → HasValues l size window accepted t → l.state ≡ st
        → later → AnswersAt (phase.AsksReceiving st) t e
        → Waits first (wanted_in (phase.AsksReceiving st) (counted t e) e)
    receiving_wants t st (event.Reply (reply.Receiving (Some z))) k q next n =
        received_waits (with_received t z) st k q next
    receiving_wants t st (event.Reply (reply.Receiving None)) k q next n = tt
    receiving_wants t st e k q next n = absurd n

    resumed_wants : (t : State) (st : SendState) (e : Event) → HasValues l size window accepted t → l.state ≡ st
        → AnswersAt (phase.AsksResumed st) t e → SendTells (phase.AsksResumed st) t e
        → Waits first (wanted_in (phase.AsksResumed st) (counted t e) e)
    resumed_wants t st (event.Reply (reply.Resumed (Ok (Some o)))) k q n tells =
        link_waits (restored t st o.octets) t.side
        ((sym q, kept_same st l.octets o.octets (sym tells), ap stage_on_link (sym q)), k) k.2
    resumed_wants t st (event.Reply (reply.Resumed (Ok None))) k q n tells = tt
    resumed_wants t st (event.Reply (reply.Resumed (Err m))) k q n tells = tt
    resumed_wants t st e k q n tells = absurd n

    opens_wants : (t : State) (e : Event) → Has l size window accepted t → AnswersAt phase.PutsOpen t e
        → Waits first (wanted_in phase.PutsOpen (counted t e) e)
    opens_wants t event.Go k n = (refl, k)
    opens_wants t event.Over k n = tt
    opens_wants t any1 k n = absurd (never n)

    answer_wants : (t : State) (e : Event) → is_unit e ≡ false → AnswersAt phase.ReadsAnswer t e
        → Waits first (wanted_in phase.ReadsAnswer (counted t e) e)
    answer_wants t (event.Unit y) i n = absurd (never (sym i))
    answer_wants t event.BadUnit i n = bad_waits first (counted t event.BadUnit)
    answer_wants t event.Over i n = tt
    answer_wants t any1 i n = absurd (never n)

    agree_wants : (t : State) (e : Event) → HasHalf l size window accepted t → HasSize t
        → AnswersAt phase.AsksAgree t e → SendTells phase.AsksAgree t e
        → Waits (s.got first u.Accept) (wanted_in phase.AsksAgree (counted t e) e)
    agree_wants t (event.Reply (reply.LaneAgree z)) h v n tells = agreed_waits t z h v tells
    agree_wants t e h v n tells = absurd n

    accept_wants : (t : State) (e : Event) → Has l size window accepted t → accepted ≡ true
        → FitsAt phase.PutsAccept t → AnswersAt phase.PutsAccept t e
        → Waits first (wanted_in phase.PutsAccept (counted t e) e)
    accept_wants t event.Go k i f n = accepted_waits t (linked_is t k.0 k.1.0 (k.1.1 f.0.5) f.0.2 i)
    accept_wants t event.Over k i f n = tt
    accept_wants t any1 k i f n = absurd (never n)

    -- any other event than a unit
    pub opening_wants : (early : Type 0) (p : Phase) (t : State) (e : Event) (a : Action) (b : SendEnd)
        → is_opening p ≡ true → is_unit e ≡ false → SendAt l size window accepted early p t a b
        → (is_soon p ≡ true → early → later)
        → FitsAt p t → AnswersAt p t e → SendTells p t e → Waits b (wanted_in p (counted t e) e)
    opening_wants early phase.Begin t e a b i j k next f n tells =
        subst (λ z. Waits z (wanted_in phase.Begin (counted t e) e)) (sym k.0) (begin_wants t e k.1 k.2 (next refl k.3)
        n)
    opening_wants early phase.AsksValues t e a b i j k next f n tells =
        subst (λ z. Waits z (wanted_in phase.AsksValues (counted t e) e)) (sym k.0)
        (values_wants t e k.1 (next refl k.2) n tells)
    opening_wants early phase.AsksRecovery t e a b i j k next f n tells =
        subst (λ z. Waits z (wanted_in phase.AsksRecovery (counted t e) e)) (sym k.0)
        (recovery_wants t e k.1 (next refl k.2) n tells)
    opening_wants early (phase.AsksReceiving st) t e a b i j k next f n tells =
        subst (λ z. Waits z (wanted_in (phase.AsksReceiving st) (counted t e) e)) (sym k.0)
        (receiving_wants t st e k.1 k.2 (next refl k.3) n)
    opening_wants early (phase.AsksResumed st) t e a b i j k next f n tells =
        subst (λ z. Waits z (wanted_in (phase.AsksResumed st) (counted t e) e)) (sym k.0)
        (resumed_wants t st e k.1 k.2 n tells)
    opening_wants early phase.PutsOpen t e a b i j k next f n tells =
        subst (λ z. Waits z (wanted_in phase.PutsOpen (counted t e) e)) (sym k.0) (opens_wants t e k.1 n)
    opening_wants early phase.ReadsAnswer t e a b i j k next f n tells =
        subst (λ z. Waits z (wanted_in phase.ReadsAnswer (counted t e) e)) (sym k.0) (answer_wants t e j n)
    opening_wants early phase.AsksAgree t e a b i j k next f n tells =
        subst (λ z. Waits z (wanted_in phase.AsksAgree (counted t e) e)) (sym k.0) (agree_wants t e k.1 k.2 n tells)
    opening_wants early phase.PutsAccept t e a b i j k next f n tells =
        subst (λ z. Waits z (wanted_in phase.PutsAccept (counted t e) e)) (sym k.0) (accept_wants t e k.1 k.2 f n)
    opening_wants early p t e a b i j k next f n tells = absurd (never i)
