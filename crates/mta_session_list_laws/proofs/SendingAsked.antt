-- The sending half of a session's list where a question is answered: what the reply tells, with the Abandon of another
-- pass that stands before it.
use Rattle.std.proofs.Common.{◌≡◌, ◌⊎◌, inl, inr, ℕ, zero, suc, ◌+◌, ◌-◌, ◌<◌, ◌≤◌, ◌==◌, Bool, true}
use Rattle.std.proofs.Common.{false, Option, Some, None, Ok, Err, slice_get, List, [], ◌∷◌, length, take}
use Rattle.std.proofs.Common.{refl, sym, ap, subst, ◌∙◌, arith}
use Rattle.std.proofs.lemmas.Bool.{eqb-true}
use Rattle.mta_lane_send.specs.declared.state.SendState.{SendState}
use Rattle.mta_lane_send.specs.declared.state.SendState.TheVariants as state
use Rattle.mta_lane_send.specs.Half.{is_idle, is_sending, last_of}
use Rattle.mta_transfer_rules.specs.Lanes as h
use Rattle.mta_transfer_rules.specs.Lanes.{Halves, Seen, On, lane_in}
use Rattle.mta_transfer_rules.specs.Units.{LaneUnit}
use Rattle.mta_transfer_rules.specs.Sending as s
use Rattle.mta_transfer_rules.specs.Sending.{SendEnd, SendEvent}
use Rattle.mta_transfer_laws.specs.History.{IsOfLanes}
use Rattle.mta_transfer_laws.proofs.Histories.{upto-take}
use Rattle.mta_session_list_laws.proofs.Lanes.{lane_at}
use Rattle.mta_records.specs.Outgoing.{Carried}
use Rattle.mta_records.specs.declared.fault.StepFault.{StepFault}
use Rattle.mta_records.specs.declared.fault.StepFault.TheVariants as fault
use Rattle.mta_records.specs.declared.lane.Batch.{Batch}
use Rattle.mta_session.specs.declared.ask.Ask.{Ask}
use Rattle.mta_session.specs.declared.ask.Ask.TheVariants as ask
use Rattle.mta_session.specs.declared.ask.Reply.{Reply}
use Rattle.mta_session.specs.declared.ask.Reply.TheVariants as reply
use Rattle.mta_session.specs.declared.event.Action.TheVariants as action
use Rattle.mta_session.specs.declared.event.Event.TheVariants as event
use Rattle.mta_session.specs.declared.phase.OwnStep.{OwnStep}
use Rattle.mta_session.specs.declared.phase.OwnStep.TheVariants as own
use Rattle.mta_session.specs.declared.phase.Phase.{Phase}
use Rattle.mta_session.specs.declared.phase.Phase.TheVariants as phase
use Rattle.mta_session.specs.Sending.{step_of}
use Rattle.mta_session.specs.State.{State}
use Rattle.mta_session.specs.Wanted.{ask_of, on_step, on_state, is_given_up, is_cut, wanted_of_reply}
use Rattle.mta_session.specs.Fits.{Fits, FitsAt, RepliesTo, AnswersAt, SendFitsAt}
use Rattle.mta_session_laws.specs.Turning.{listed, MayFollow, told_by, made_by, is_open, is_last_phase}
use Rattle.mta_session_laws.proofs.Turning.{given_up, kept_live, sending_live}
use Rattle.mta_session_laws.proofs.Whole.{is_ended}
use Rattle.mta_transfer_laws.specs.Sessions as x
use Rattle.mta_transfer_laws.specs.Sessions.{SessionEvent, Made, Looked, sending_event, send_all, turn_after, IsSeen}
use Rattle.mta_lane_match_laws.specs.Asks.{IsAskOf}
use Rattle.mta_session_list_laws.specs.Calls.{StepOn, on, step_told, look_told, told_as}
use Rattle.mta_session_list_laws.specs.Sent.{without_other}
use Rattle.mta_session_list_laws.specs.Standing.{Stands, Looks, StandsAs}
use Rattle.mta_session_list_laws.proofs.Found.{never, both}
use Rattle.mta_session_list_laws.proofs.Waiting.{goes_with, ask_answers}
use Rattle.mta_session_list_laws.proofs.ReceivingEnds.{is_opening}
use Rattle.mta_session_list_laws.proofs.SendingGoes.{Allowed}
use Rattle.mta_session_list_laws.proofs.SendingLeft.{LastAsk, Leaves, OpenSend, StateSend, none_heard}
use Rattle.mta_session_list_laws.proofs.SendingOpen.{asks_own, reply_leaves, step_leaves, given_calm}
use Rattle.mta_session_list_laws.proofs.SendingPhases.{SendAt, SendWaits, if_waits}
use Rattle.mta_session_list_laws.proofs.SendingPhases.{asks_state}
use Rattle.mta_session_list_laws.proofs.SendingOpening.{SendTells, is_soon, opening_wants}
use Rattle.mta_session_list_laws.proofs.SendingLooks.{SendKeeps, With, silent_keeps, look_keeps, NotYet}
use Rattle.mta_session_list_laws.proofs.SendingLooks.{not_yet_seen, not_yet_given, not_yet_started, not_yet_own}
use Rattle.mta_session_list_laws.proofs.SendingLooks.{own_seen}
use Rattle.mta_session_list_laws.proofs.SendingLooks.{own_keeps, denied_keeps, sent_keeps, start_keeps, idle_none}
use Rattle.mta_session_list_laws.proofs.SendingCalls.{left_calm}
use Rattle.mta_session_list_laws.proofs.SendingTold.{Told, other_quiet, close_quiet, asks_else, else_quiet}
use Rattle.mta_session_list_laws.proofs.SendingTold.{StepReply, makes, refuses, step_reply}

-- ---- what is told by the laws of sessions

else_none : (p : Phase) (t : State) (y : Reply) → asks_else p ≡ true → told_by p t (event.Reply y) ≡ []
else_none phase.AsksValues t y i = refl
else_none (phase.AsksReceiving st) t y i = refl
else_none phase.AsksAgree t y i = refl
else_none phase.AsksDue t y i = refl
else_none phase.AsksBatch t y i = refl
else_none (phase.AsksSecure k n) t y i = refl
else_none (phase.AsksComplete k n) t y i = refl
else_none (phase.AsksDrop k found) t y i = refl
else_none p t y i = absurd (never i)

else_own : (p : Phase) → asks_else p ≡ true → asks_own p ≡ false
else_own (phase.AsksStep step) i = absurd (never i)
else_own phase.AsksState i = absurd (never i)
else_own p i = refl

else_state : (p : Phase) → asks_else p ≡ true → asks_state p ≡ false
else_state phase.AsksState i = absurd (never i)
else_state p i = refl

sending_is : (st : SendState) (k : ℕ) → is_sending st k ≡ true → k ≡ last_of st
sending_is (state.Sending j c) k e = eqb-true k j e
sending_is any0 k e = absurd (never e)

-- an activity that a look tells as given up is the one that is sent
given_told : (t : State) (told : SendState) → is_given_up t told ≡ true
    → told ≡ state.Dropping (last_of t.send.state)
given_told t (state.Dropping k) g =
    ap state.Dropping (sending_is t.send.state k (both (is_sending t.send.state k) (is_cut t.send.stage k) g).0)
given_told t any1 g = absurd (never g)

given_listed : (t : State) (hd : Option LaneUnit) (o : List ℕ)
    → is_sending t.send.state (last_of t.send.state) ≡ true
    → s.made (listed t.send hd o) s.Abandon ≡ listed (s.made t.send s.Abandon) hd o
given_listed t hd o i =
    ap (λ (os : List ℕ). record (s.made (listed t.send hd o) s.Abandon) { octets = os })
    (kept_live t.send.state o t.send.octets (sending_live t.send.state (last_of t.send.state) i))

-- a lane that drops an activity was opened
some_seen : (history : List Seen) (lane n k : ℕ) → (lane_in lane (take n history)).state ≡ state.Dropping k → 1 ≤ n
some_seen history lane zero k e = absurd (let c : state.Idle 0 ≡ state.Dropping k = e in cc)
some_seen history lane (suc n) k e = omega arith

-- (`After` is what is asked of the list's end behind a call)
module _ (spells : List ℕ → Bool) (history : List Seen) (lane : ℕ) (allow : IsOfLanes spells history)
    (l : Halves) (size window : ℕ) (accepted : Bool) (low : ℕ) (early later : Type 0) (After : SendEnd → Type 0) where
  abbrev pub Yet : ℕ → SendEnd → Type 0
  Yet n e = NotYet spells history lane allow n e

  abbrev pub Keeps : x.Turn → ℕ → SendEnd → List SessionEvent → Type 0
  Keeps v n e rest = SendKeeps lane v e (With history lane n e rest)

  -- what follows a call
  abbrev pub Rest : (seen : ℕ) → x.Turn → List SessionEvent → Type 0
  Rest seen v rest = (e : SendEnd) (to : ℕ) → After e → Yet to e → low ≤ to → to ≤ seen → Keeps v to e rest

  -- a question is answered
  pub record Answered (t : State) (q : Ask) (y : Reply) (behind from seen : ℕ) (c : SendEnd) : Type 0 where
    pub fits : Fits t
    pub answers : AnswersAt t.phase t (event.Reply y)
    pub waits : goes_with (action.Ask q) t.phase ≡ true
    pub asked : IsAskOf t.phase t q
    pub lane_is : is_last_phase t.phase ≡ false → t.lane ≡ lane
    pub at : SendAt l size window accepted early t.phase t (action.Ask q) c
    pub begun : low ≤ behind
    pub upto : behind ≤ from
    pub stands : StandsAs spells history from seen q y (step_told q y)
    pub yet : Yet behind c
    pub tells : SendTells l size window accepted t.phase t (event.Reply y)
    pub next : is_soon t.phase ≡ true → early → later
    pub soon : is_soon t.phase ≡ true → early → seen ≡ low
    -- what is wanted for the reply leaves the list so
    pub open_after : is_open t.phase ≡ true → (hd : Option LaneUnit) (o : List ℕ)
        → MayFollow t.phase (listed t.send hd o) → (mid : SendEnd)
        → mid ≡ send_all (listed t.send hd o) (without_other (told_by t.phase t (event.Reply y)))
        → Leaves mid (wanted_of_reply t.phase t y) → After mid
    pub waits_after : is_ended t.phase ≡ false → (mid : SendEnd)
        → SendWaits l size window accepted later mid (wanted_of_reply t.phase t y) → After mid
    pub last_after : is_last_phase t.phase ≡ true → (mid : SendEnd) → After mid

  later_of : (from seen : ℕ) (q : Ask) (y : Reply) (o : Option StepOn) → StandsAs spells history from seen q y o
      → from ≤ seen
  later_of from seen q y (Some z) k = let a = k.later in omega (arith, a)
  later_of from seen q y None k = k.later

  module _ (t : State) (behind from seen : ℕ) (c : SendEnd) (v : x.Turn) (rest : List SessionEvent)
      (more : Rest seen v rest) where
    abbrev Here : Ask → Reply → Type 0
    Here q y = Answered t q y behind from seen c

    abbrev pub Goal : Ask → Reply → Type 0
    Goal q y =
        SendKeeps lane v c (With history lane behind c (told_as seen (step_told q y) (look_told q y) ∷ rest))

    within : (q : Ask) (y : Reply) → Here q y → behind ≤ seen
    within q y k =
        let a = later_of from seen q y (step_told q y) k.stands in
        let b = k.upto in
        omega (arith, a, b)

    -- ---- the three kinds of events

    quiet_goal : (q : Ask) (y : Reply) → Here q y → Told lane seen q y → After c → Goal q y
    quiet_goal q y k z after =
        let event_ : SessionEvent = told_as seen (step_told q y) (look_told q y) in
        silent_keeps history lane v behind c event_ rest z.before
        (z.after behind) (z.rests v c) (subst (λ w. Allowed c w) (sym z.none) tt)
        (subst (λ w. SendKeeps lane w (send_all c (sending_event lane event_))
        (With history lane behind (send_all c (sending_event lane event_)) rest)) (sym (z.turns v))
        (subst (λ w. SendKeeps lane v (send_all c w) (With history lane behind (send_all c w) rest)) (sym z.none)
        (more c behind after k.yet k.begun (within q y k))))

    look_goal : (q : Ask) (y : Reply) → Here q y → step_told q y ≡ None → look_told q y ≡ x.At_sending
        → (IsSeen history lane behind seen c → seen ≤ length history → After c)
        → (is_sending c.state (last_of c.state) ≡ true → behind < seen → After (s.made c s.Abandon)) → Goal q y
    look_goal q y k n w one some =
        let there : Looks spells history from seen q y =
        subst (λ o. StandsAs spells history from seen q y o) n k.stands in
        let up : behind ≤ seen = within q y k in
        let down = k.begun in
        subst (λ o. SendKeeps lane v c (With history lane behind c (told_as seen o (look_told q y) ∷ rest))) (sym n)
        (subst (λ z. SendKeeps lane v c (With history lane behind c (Looked seen z ∷ rest))) (sym w)
        (look_keeps history lane v behind seen c rest up
        (λ z. more c seen (one z there.within)
        (not_yet_seen spells history lane allow behind seen c up there.within z k.yet) (omega (arith, down, up))
        (omega arith))
        (λ p i a b. more (s.made c s.Abandon) seen (some i (omega (arith, a, b)))
        (not_yet_given spells history lane allow seen c) (omega (arith, down, up)) (omega arith))))

    -- a step that was made, where it stands
    abbrev Made_at : Ask → Reply → StepOn → Type 0
    Made_at q y z = Stands history from seen z

    made_there : (q : Ask) (y : Reply) (z : StepOn) → Here q y → step_told q y ≡ Some z → Stands history from seen z
    made_there q y z k e = subst (λ o. StandsAs spells history from seen q y o) e k.stands

    -- what follows a step at the last position
    step_more : (q : Ask) (y : Reply) (mid : SendEnd) → Here q y → from < seen → After mid → Yet (seen - 1 + 1) mid
        → Keeps v (seen - 1 + 1) mid rest
    step_more q y mid k lt after yet =
        let up = k.upto in
        let down = k.begun in
        more mid (seen - 1 + 1) after yet (omega (arith, lt, up, down)) (omega (arith, lt))

    before_step : (q : Ask) (y : Reply) → Here q y → from < seen → behind ≤ seen - 1
    before_step q y k lt = let up = k.upto in omega (arith, up, lt)

    -- ---- an open session

    abbrev Phase_is : Phase → Type 0
    Phase_is p = t.phase ≡ p

    after_open : (q : Ask) (y : Reply) → Here q y → (p : Phase) → Phase_is p → is_open p ≡ true
        → (hd : Option LaneUnit) (o : List ℕ) → MayFollow p (listed t.send hd o) → (mid : SendEnd)
        → mid ≡ send_all (listed t.send hd o) (without_other (told_by p t (event.Reply y)))
        → Leaves mid (wanted_of_reply p t y) → After mid
    after_open q y k p e i hd o may mid told leaves =
        k.open_after (subst (λ z. is_open z ≡ true) (sym e) i) hd o
        (subst (λ z. MayFollow z (listed t.send hd o)) (sym e) may) mid
        (subst (λ z. mid ≡ send_all (listed t.send hd o) (without_other (told_by z t (event.Reply y)))) (sym e) told)
        (subst (λ z. Leaves mid (wanted_of_reply z t y)) (sym e) leaves)

    else_goal : (q : Ask) (y : Reply) → Here q y → (p : Phase) → Phase_is p → is_open p ≡ true → asks_else p ≡ true
        → FitsAt p t → IsAskOf p t q → RepliesTo p t y → OpenSend p t (action.Ask q) c
        → Goal q y
    else_goal q y k p e i j f a r at =
        quiet_goal q y k (else_quiet lane seen p t q y j a r)
        (after_open q y k p e i at.heard at.before at.may c
        (at.is ∙ ap (λ (z : List SendEvent). send_all (listed t.send at.heard at.before) (without_other z))
        (sym (else_none p t y j)))
        (reply_leaves c p t y i (else_own p j) f
        (left_calm p t (action.Ask q) c i (else_own p j) at.left)))

    -- an activity is started

    idle_there : FitsAt phase.AsksStart t → is_idle t.send.state ≡ true
    idle_there f = subst (λ z. SendFitsAt z t.send) f.3 f.0.3.0

    start_made : (n gen : ℕ) (batch : Batch) (o : Carried) → Here (ask.Start n gen batch) (reply.Start (Ok o))
        → Phase_is phase.AsksStart → FitsAt phase.AsksStart t → n ≡ t.lane
        → RepliesTo phase.AsksStart t (reply.Start (Ok o))
        → OpenSend phase.AsksStart t (action.Ask (ask.Start n gen batch)) c
        → Goal (ask.Start n gen batch) (reply.Start (Ok o))
    start_made n gen batch o k e f a r at =
        let q : Ask = ask.Start n gen batch in
        let y : Reply = reply.Start (Ok o) in
        let there = made_there q y (record { lane = n; step = h.Start gen o.activity o.octets }) k refl in
        let same : n ≡ lane = a ∙ k.lane_is (ap is_last_phase e) in
        let may : s.MayMake c (s.Start o.octets) =
        subst (λ z. s.MayMake z (s.Start o.octets)) (sym at.is) (idle_there f, f.3, r.1) in
        let mid : SendEnd = s.made c (s.Start o.octets) in
        start_keeps spells history lane allow v behind (seen - 1) n gen o.activity o.octets c rest same may
        (before_step q y k there.later)
        (step_more q y mid k there.later
        (after_open q y k phase.AsksStart e refl at.heard at.before tt mid
        (ap (λ (z : SendEnd). s.made z (s.Start o.octets)) at.is)
        (reply_leaves mid phase.AsksStart t y refl refl f (inl (none_heard mid refl))))
        (not_yet_started spells history lane allow (seen - 1) gen o.activity o.octets mid
        (subst (λ z. slice_get history (seen - 1) ≡ Some (On z (h.Start gen o.activity o.octets))) same there.entry)))

    start_refused : (n gen : ℕ) (batch : Batch) (z : StepFault) → Here (ask.Start n gen batch) (reply.Start (Err z))
        → Phase_is phase.AsksStart → FitsAt phase.AsksStart t
        → OpenSend phase.AsksStart t (action.Ask (ask.Start n gen batch)) c
        → Goal (ask.Start n gen batch) (reply.Start (Err z))
    start_refused n gen batch z k e f at =
        let q : Ask = ask.Start n gen batch in
        let y : Reply = reply.Start (Err z) in
        look_goal q y k refl refl
        (λ w b. after_open q y k phase.AsksStart e refl at.heard at.before tt c at.is
        (reply_leaves c phase.AsksStart t y refl refl f at.left))
        (λ i w. absurd (idle_none t.send.state (idle_there f)
        (subst (λ z. is_sending z.state (last_of z.state) ≡ true) at.is i)))

    start_goal : (q : Ask) (y : Reply) → Here q y → Phase_is phase.AsksStart → FitsAt phase.AsksStart t
        → IsAskOf phase.AsksStart t q → RepliesTo phase.AsksStart t y
        → OpenSend phase.AsksStart t (action.Ask q) c → Goal q y
    start_goal (ask.Start n gen batch) (reply.Start (Ok o)) k e f a r at = start_made n gen batch o k e f a.0 r at
    start_goal (ask.Start n gen batch) (reply.Start (Err z)) k e f a r at = start_refused n gen batch z k e f at
    start_goal (ask.Start n gen batch) y k e f a r at = absurd r
    start_goal q y k e f a r at = absurd a

    -- another worker was first

    idle_still : FitsAt phase.AsksStillIdle t → is_idle t.send.state ≡ true
    idle_still f = subst (λ z. SendFitsAt z t.send) f.3 f.0.3.0

    recovery_look : (q : Ask) (y : Reply) (n : ℕ) → q ≡ ask.Recovery n
        → (step_told q y ≡ None) × (look_told q y ≡ x.At_sending)
    recovery_look q y n e = (
      ap (λ (z : Ask). step_told z y) e,
      ap (λ (z : Ask). look_told z y) e,
    )

    still_goal : (q : Ask) (y : Reply) → Here q y → Phase_is phase.AsksStillIdle
        → FitsAt phase.AsksStillIdle t → IsAskOf phase.AsksStillIdle t q
        → RepliesTo phase.AsksStillIdle t y → OpenSend phase.AsksStillIdle t (action.Ask q) c → Goal q y
    still_goal q (reply.Recovery z) k e f a r at =
        let y : Reply = reply.Recovery z in
        let looks = recovery_look q y t.lane a in
        look_goal q y k looks.0 looks.1
        (λ w b. after_open q y k phase.AsksStillIdle e refl at.heard at.before tt c at.is
        (reply_leaves c phase.AsksStillIdle t y refl refl f at.left))
        (λ i w. absurd (idle_none t.send.state (idle_still f)
        (subst (λ z. is_sending z.state (last_of z.state) ≡ true) at.is i)))
    still_goal q y k e f a r at = absurd r

    -- an own step

    waits_for : (q : Ask) (y : Reply) → Here q y → (p : Phase) → Phase_is p → is_ended p ≡ false → (mid : SendEnd)
        → SendWaits l size window accepted later mid (wanted_of_reply p t y) → After mid
    waits_for q y k p e i mid waits =
        k.waits_after (ap is_ended e ∙ i) mid
        (subst (λ z. SendWaits l size window accepted later mid (wanted_of_reply z t y)) (sym e) waits)

    -- it is refused, and the activity may have been given up
    refused_waits : (step : OwnStep) (f : StepFault) (mid : SendEnd) → StateSend t mid
        → SendWaits l size window accepted later mid (on_step t step (Err f))
    refused_waits step fault.Unexpected mid at = record { heard = at.heard; before = at.before; is = at.is }
    refused_waits step f mid at = tt

    step_made : (q : Ask) (y : Reply) → Here q y → (step : OwnStep) → Phase_is (phase.AsksStep step)
        → q ≡ ask_of t step → step_told (ask_of t step) y ≡ on t.lane (own_seen t step)
        → made_by step y ≡ s.Made (step_of step) ∷ []
        → wanted_of_reply (phase.AsksStep step) t y ≡ on_step t step (Ok tt)
        → OpenSend (phase.AsksStep step) t (action.Ask q) c → Goal q y
    step_made q y k step e a told made wants at =
        let own_lane : t.lane ≡ lane = k.lane_is (ap is_last_phase e) in
        let is : step_told q y ≡ on lane (own_seen t step) =
        ap (λ (z : Ask). step_told z y) a ∙ told ∙ ap (λ (n : ℕ). on n (own_seen t step)) own_lane in
        let there = made_there q y (record { lane = lane; step = own_seen t step }) k is in
        let may : s.MayMake c (step_of step) = subst (λ z. s.MayMake z (step_of step)) (sym at.is) at.may in
        let mid : SendEnd = s.made c (step_of step) in
        subst (λ o. SendKeeps lane v c (With history lane behind c (told_as seen o (look_told q y) ∷ rest))) (sym is)
        (own_keeps spells history lane allow v behind (seen - 1) t step c rest
        (ap (λ (z : SendEnd). z.state) at.is) may (before_step q y k there.later) there.entry
        (step_more q y mid k there.later
        (after_open q y k (phase.AsksStep step) e refl at.heard at.before at.may mid
        (ap (λ (z : SendEnd). s.made z (step_of step)) at.is
        ∙ ap (λ (z : List SendEvent). send_all (listed t.send at.heard at.before) (without_other z)) (sym made))
        (subst (λ z. Leaves mid z) (sym wants) (step_leaves mid t step (Ok tt) (calm step))))
        (not_yet_own spells history lane allow t step c (seen - 1) there.entry)))
      where
        calm : (step : OwnStep) → s.CallsForNothing (s.made c (step_of step))
        calm (own.Confirm n) = none_heard (s.made c (s.Confirm n)) refl
        calm own.Ending = none_heard (s.made c s.To_end) refl
        calm own.Sent = none_heard (s.made c s.Sent) refl
        calm own.Dropped = none_heard (s.made c s.Dropped) refl
        calm (own.Refused kind) = none_heard (s.made c s.Refused) refl

    step_refused : (q : Ask) (y : Reply) → Here q y → (step : OwnStep) (f : StepFault) → Phase_is (phase.AsksStep step)
        → q ≡ ask_of t step → step_told (ask_of t step) y ≡ None
        → look_told (ask_of t step) y ≡ x.At_sending
        → wanted_of_reply (phase.AsksStep step) t y ≡ on_step t step (Err f)
        → OpenSend (phase.AsksStep step) t (action.Ask q) c → Goal q y
    step_refused q y k step f e a told looked wants at =
        look_goal q y k (ap (λ (z : Ask). step_told z y) a ∙ told) (ap (λ (z : Ask). look_told z y) a ∙ looked)
        (λ w b. waits_for q y k (phase.AsksStep step) e refl c
        (subst (λ z. SendWaits l size window accepted later c z) (sym wants)
        (refused_waits step f c (record { heard = at.heard; before = at.before; is = inl at.is }))))
        (λ i w. waits_for q y k (phase.AsksStep step) e refl (s.made c s.Abandon)
        (subst (λ z. SendWaits l size window accepted later (s.made c s.Abandon) z) (sym wants)
        (refused_waits step f (s.made c s.Abandon) (record {
          heard = at.heard;
          before = at.before;
          is = inr (
            subst (λ z. is_sending z.state (last_of z.state) ≡ true) at.is i,
            ap (λ (z : SendEnd). s.made z s.Abandon) at.is,
          );
        }))))

    step_goal : (q : Ask) (y : Reply) → Here q y → (step : OwnStep) → Phase_is (phase.AsksStep step)
        → IsAskOf (phase.AsksStep step) t q → StepReply t step y
        → OpenSend (phase.AsksStep step) t (action.Ask q) c → Goal q y
    step_goal q y k step e a (makes told made wants) at = step_made q y k step e a told made wants at
    step_goal q y k step e a (refuses f told looked none wants) at = step_refused q y k step f e a told looked wants at

    -- whether the own activity was given up

    state_waits : (told : SendState) (mid : SendEnd) (hd : Option LaneUnit) (o : List ℕ) → t.ours ≡ true
        → (is_given_up t told ≡ true → mid ≡ s.made (listed t.send hd o) s.Abandon)
        → SendWaits l size window accepted later mid (on_state t (Some told))
    state_waits told mid hd o own given =
        if_waits l size window accepted later mid (is_given_up t told) _ _
        (λ i. record {
          heard = hd;
          before = o;
          is = given i ∙ given_listed t hd o (given_up t told i);
          calm = inr (own, given_calm mid t told own i);
        })
        (λ i. tt)

    -- the look tells of it where it was not given up so far
    none_given : (n : ℕ) (told : SendState) → IsSeen history lane behind seen c → seen ≤ length history
        → behind ≤ seen → Yet behind c → (lane_in lane (take seen history)).state ≡ told
        → c.state ≡ t.send.state → is_given_up t told ≡ true → ⊥
    none_given n told w b le yet is e i =
        let given : told ≡ state.Dropping (last_of t.send.state) = given_told t told i in
        let some : 1 ≤ seen = some_seen history lane seen (last_of t.send.state) (is ∙ given) in
        let so : (lane_at spells history lane allow.allowed seen).state ≡ told =
        ap (λ (z : Halves). z.state) (upto-take history lane seen some) ∙ is in
        not_yet_seen spells history lane allow behind seen c le b w yet
        (subst (λ z. is_sending z (last_of z) ≡ true) (sym e) (given_up t told i))
        (so ∙ given ∙ ap (λ (z : SendState). state.Dropping (last_of z)) (sym e))

    told_state : (q : Ask) (told : SendState) → Here q (reply.Recovery (Some told)) → q ≡ ask.Recovery t.lane
        → t.lane ≡ lane → (lane_in lane (take seen history)).state ≡ told
    told_state q told k a e =
        let y : Reply = reply.Recovery (Some told) in
        let stands : Looks spells history from seen (ask.Recovery t.lane) y =
        subst (λ z. StandsAs spells history from seen z y (step_told z y)) a k.stands in
        subst (λ n. (lane_in n (take seen history)).state ≡ told) e stands.told

    state_told : (q : Ask) (told : SendState) → Here q (reply.Recovery (Some told)) → Phase_is phase.AsksState
        → FitsAt phase.AsksState t → IsAskOf phase.AsksState t q → (hd : Option LaneUnit) (o : List ℕ)
        → (c ≡ listed t.send hd o)
        ⊎ ((is_sending t.send.state (last_of t.send.state) ≡ true)
        × (c ≡ s.made (listed t.send hd o) s.Abandon)) → Goal q (reply.Recovery (Some told))
    state_told q told k e f a hd o (inl is) =
        let y : Reply = reply.Recovery (Some told) in
        let looks = recovery_look q y t.lane a in
        let there = told_state q told k a (k.lane_is (ap is_last_phase e)) in
        look_goal q y k looks.0 looks.1
        (λ w b. waits_for q y k phase.AsksState e refl c
        (state_waits told c hd o f.2 (λ i. absurd (none_given 0 told w b (within q y k) k.yet there
        (ap (λ (z : SendEnd). z.state) is) i))))
        (λ i w. waits_for q y k phase.AsksState e refl (s.made c s.Abandon)
        (state_waits told (s.made c s.Abandon) hd o f.2 (λ j. ap (λ (z : SendEnd). s.made z s.Abandon) is)))
    state_told q told k e f a hd o (inr is) =
        let y : Reply = reply.Recovery (Some told) in
        let looks = recovery_look q y t.lane a in
        look_goal q y k looks.0 looks.1
        (λ w b. waits_for q y k phase.AsksState e refl c (state_waits told c hd o f.2 (λ i. is.1)))
        (λ i w. absurd (never (subst (λ z. is_sending z.state (last_of z.state) ≡ true) is.1 i)))

    state_goal : (q : Ask) (y : Reply) → Here q y → Phase_is phase.AsksState → FitsAt phase.AsksState t
        → IsAskOf phase.AsksState t q → RepliesTo phase.AsksState t y → StateSend t c → Goal q y
    state_goal q (reply.Recovery (Some told)) k e f a r at = state_told q told k e f a at.heard at.before at.is
    state_goal q (reply.Recovery None) k e f a r at =
        let y : Reply = reply.Recovery None in
        let looks = recovery_look q y t.lane a in
        look_goal q y k looks.0 looks.1
        (λ w b. waits_for q y k phase.AsksState e refl c tt)
        (λ i w. waits_for q y k phase.AsksState e refl (s.made c s.Abandon) tt)
    state_goal q y k e f a r at = absurd r

    -- ---- before the session is open

    abbrev looks_early : Phase → Bool
    looks_early phase.AsksRecovery = true
    looks_early (phase.AsksResumed st) = true
    looks_early p = false

    opening_after : (q : Ask) (y : Reply) → Here q y → (p : Phase) → Phase_is p → is_opening p ≡ true
        → is_ended p ≡ false → FitsAt p t → AnswersAt p t (event.Reply y)
        → SendAt l size window accepted early p t (action.Ask q) c
        → SendTells l size window accepted p t (event.Reply y) → After c
    opening_after q y k p e i n f a at tells =
        waits_for q y k p e n c
        (opening_wants l size window accepted later early p t (event.Reply y) (action.Ask q) c i refl at
        (λ j. k.next (ap is_soon e ∙ j)) f a tells)

    early_goal : (q : Ask) (y : Reply) → Here q y → seen ≡ low → step_told q y ≡ None → look_told q y ≡ x.At_sending
        → After c → Goal q y
    early_goal q y k same n w after =
        look_goal q y k n w (λ z b. after)
        (λ i b. let down = k.begun in absurd (omega (arith, same, down, b)))

    -- ---- at the end

    last_after : (q : Ask) (y : Reply) → Here q y → is_last_phase t.phase ≡ true → (mid : SendEnd) → After mid
    last_after q y k i mid = k.last_after i mid

    denied_made : (n gen j : ℕ) (z : Unit {0}) → Here (ask.Denied n gen j) (reply.Denied (Ok z))
        → is_last_phase t.phase ≡ true → s.MayMake c s.Denied → (b : Bool) → (n == lane) ≡ b
        → Goal (ask.Denied n gen j) (reply.Denied (Ok z))
    denied_made n gen j z k i m true e =
        let q : Ask = ask.Denied n gen j in
        let y : Reply = reply.Denied (Ok z) in
        let there = made_there q y (record { lane = n; step = h.Denied gen j }) k refl in
        denied_keeps spells history lane allow v behind (seen - 1) n gen j c rest (eqb-true n lane e) m
        (before_step q y k there.later)
        (step_more q y (s.made c s.Denied) k there.later (last_after q y k i (s.made c s.Denied)) (λ w. absurd (never
        w)))
    denied_made n gen j z k i m false e =
        let q : Ask = ask.Denied n gen j in
        let y : Reply = reply.Denied (Ok z) in
        quiet_goal q y k (other_quiet lane (seen - 1) n (h.Denied gen j) e) (last_after q y k i c)

    sent_made : (n gen j : ℕ) (z : Unit {0}) → Here (ask.Sent n gen j) (reply.Sent (Ok z))
        → is_last_phase t.phase ≡ true → s.MayMake c s.Sent → (b : Bool) → (n == lane) ≡ b
        → Goal (ask.Sent n gen j) (reply.Sent (Ok z))
    sent_made n gen j z k i m true e =
        let q : Ask = ask.Sent n gen j in
        let y : Reply = reply.Sent (Ok z) in
        let there = made_there q y (record { lane = n; step = h.Sent gen j }) k refl in
        sent_keeps spells history lane allow v behind (seen - 1) n gen j c rest (eqb-true n lane e) m
        (before_step q y k there.later)
        (step_more q y (s.made c s.Sent) k there.later (last_after q y k i (s.made c s.Sent)) (λ w. absurd (never w)))
    sent_made n gen j z k i m false e =
        let q : Ask = ask.Sent n gen j in
        let y : Reply = reply.Sent (Ok z) in
        quiet_goal q y k (other_quiet lane (seen - 1) n (h.Sent gen j) e) (last_after q y k i c)

    last_look : (q : Ask) (y : Reply) → Here q y → is_last_phase t.phase ≡ true → step_told q y ≡ None
        → look_told q y ≡ x.At_sending → Goal q y
    last_look q y k i n w =
        look_goal q y k n w (λ z b. last_after q y k i c) (λ z b. last_after q y k i (s.made c s.Abandon))

    last_goal : (q : Ask) (y : Reply) → Here q y → is_last_phase t.phase ≡ true → LastAsk q c → Goal q y
    last_goal (ask.Denied n gen j) (reply.Denied (Ok z)) k i m = denied_made n gen j z k i m (n == lane) refl
    last_goal (ask.Denied n gen j) y k i m = last_look (ask.Denied n gen j) y k i refl refl
    last_goal (ask.Sent n gen j) (reply.Sent (Ok z)) k i m = sent_made n gen j z k i m (n == lane) refl
    last_goal (ask.Sent n gen j) y k i m = last_look (ask.Sent n gen j) y k i refl refl
    last_goal (ask.CloseLane n gen) y k i m =
        quiet_goal (ask.CloseLane n gen) y k (close_quiet lane seen n gen y)
        (last_after (ask.CloseLane n gen) y k i c)
    last_goal q y k i m = absurd m

    -- ---- by phase

    resumed_look : (q : Ask) (y : Reply) (n : ℕ) → q ≡ ask.Resumed n
        → (step_told q y ≡ None) × (look_told q y ≡ x.At_sending)
    resumed_look q y n e = (
      ap (λ (z : Ask). step_told z y) e,
      ap (λ (z : Ask). look_told z y) e,
    )

    by_phase : (q : Ask) (y : Reply) → Here q y → (p : Phase) → Phase_is p → FitsAt p t
        → IsAskOf p t q → AnswersAt p t (event.Reply y) → RepliesTo p t y
        → SendAt l size window accepted early p t (action.Ask q) c
        → SendTells l size window accepted p t (event.Reply y) → Goal q y
    by_phase q y k phase.AsksValues e f a n r at tells =
        quiet_goal q y k (else_quiet lane seen phase.AsksValues t q y refl a r)
        (opening_after q y k phase.AsksValues e refl refl f n at tells)
    by_phase q y k phase.AsksRecovery e f a n r at tells =
        let looks = recovery_look q y t.lane a in
        early_goal q y k (k.soon (ap is_soon e) at.2) looks.0 looks.1 (opening_after q y k phase.AsksRecovery e refl
        refl f n at tells)
    by_phase q y k (phase.AsksReceiving st) e f a n r at tells =
        quiet_goal q y k (else_quiet lane seen (phase.AsksReceiving st) t q y refl a r)
        (opening_after q y k (phase.AsksReceiving st) e refl refl f n at tells)
    by_phase q y k (phase.AsksResumed st) e f a n r at tells =
        let looks = resumed_look q y t.lane a in
        early_goal q y k (k.soon (ap is_soon e) at.3) looks.0 looks.1 (opening_after q y k (phase.AsksResumed st) e refl
        refl f n at tells)
    by_phase q y k phase.AsksAgree e f a n r at tells =
        quiet_goal q y k (else_quiet lane seen phase.AsksAgree t q y refl a r)
        (opening_after q y k phase.AsksAgree e refl refl f n at tells)
    by_phase q y k phase.AsksDue e f a n r at tells = else_goal q y k phase.AsksDue e refl refl f a r at
    by_phase q y k phase.AsksBatch e f a n r at tells = else_goal q y k phase.AsksBatch e refl refl f a r at
    by_phase q y k (phase.AsksSecure j m) e f a n r at tells =
        else_goal q y k (phase.AsksSecure j m) e refl refl f a r at
    by_phase q y k (phase.AsksComplete j m) e f a n r at tells =
        else_goal q y k (phase.AsksComplete j m) e refl refl f a r at
    by_phase q y k (phase.AsksDrop j found) e f a n r at tells =
        else_goal q y k (phase.AsksDrop j found) e refl refl f a r at
    by_phase q y k phase.AsksStart e f a n r at tells = start_goal q y k e f a r at
    by_phase q y k phase.AsksStillIdle e f a n r at tells = still_goal q y k e f a r at
    by_phase q y k (phase.AsksStep step) e f a n r at tells =
        step_goal q y k step e a (step_reply t step y r) at
    by_phase q y k phase.AsksState e f a n r at tells = state_goal q y k e f a r at
    by_phase q y k phase.AsksDenied e f a n r at tells = last_goal q y k (ap is_last_phase e) at
    by_phase q y k phase.AsksClose e f a n r at tells = last_goal q y k (ap is_last_phase e) at
    by_phase q y k (phase.AsksLast z) e f a n r at tells = last_goal q y k (ap is_last_phase e) at
    by_phase q y k phase.AsksPeer e f a n r at tells = absurd at
    by_phase q y k phase.AsksStands e f a n r at tells = absurd at
    by_phase q y k (phase.AsksNewLane again) e f a n r at tells = absurd at
    by_phase q y k phase.AsksSpare e f a n r at tells = absurd at
    by_phase q y k phase.AsksRoom e f a n r at tells = absurd at
    by_phase q y k phase.AsksOldLane e f a n r at tells = absurd at
    by_phase q y k phase.AsksBind e f a n r at tells = absurd at
    by_phase q y k p e f a n r at tells = absurd r

    pub asked_keeps : (q : Ask) (y : Reply) → Here q y → Goal q y
    asked_keeps q y k =
        by_phase q y k t.phase refl k.fits k.asked k.answers
        (ask_answers t.phase t (event.Reply y) k.waits k.answers) k.at k.tells
