-- The sending half of a session's list, with Abandons of other passes, from the step that begins the list.
use Rattle.std.proofs.Common.{◌≡◌, ℕ, ◌+◌, ◌-◌, ◌*◌, ◌==◌, suc, not, if◌then◌else◌, Bool, true}
use Rattle.std.proofs.Common.{false, Option, Some, None, Ok, slice_get, List, [], ◌∷◌, ◌++◌, take}
use Rattle.std.proofs.Common.{drop, refl, sym, ap, subst, ◌∙◌, arith}
use Rattle.std.proofs.lemmas.List.{take-append-drop}
use Rattle.mta_lane_send.specs.declared.state.SendState.{SendState}
use Rattle.mta_lane_send.specs.declared.state.SendState.TheVariants as state
use Rattle.mta_lane_send.specs.Half.{is_sending, last_of}
use Rattle.mta_rtse.specs.declared.types.Answer.{Answer}
use Rattle.mta_units.specs.declared.unit.OpenUnit.{OpenUnit}
use Rattle.mta_units.specs.declared.unit.Unit.{Unit as AnyUnit}
use Rattle.mta_transfer_rules.specs.Units.{LaneUnit}
use Rattle.mta_transfer_rules.specs.Lanes as h
use Rattle.mta_transfer_rules.specs.Lanes.{Halves, Seen, SeenStep, On, lane_in, halves_after, unopened}
use Rattle.mta_transfer_rules.specs.Sending as s
use Rattle.mta_transfer_rules.specs.Sending.{SendEnd, SendEvent}
use Rattle.mta_transfer_laws.specs.History.{IsOfLanes}
use Rattle.mta_session.specs.declared.ask.Ask.{Ask}
use Rattle.mta_session.specs.declared.ask.Ask.TheVariants as ask
use Rattle.mta_session.specs.declared.ask.Reply.{Reply}
use Rattle.mta_session.specs.declared.ask.Reply.TheVariants as reply
use Rattle.mta_session.specs.declared.event.Action.{Action}
use Rattle.mta_session.specs.declared.event.Action.TheVariants as action
use Rattle.mta_session.specs.declared.event.Event.{Event}
use Rattle.mta_session.specs.declared.event.Event.TheVariants as event
use Rattle.mta_session.specs.declared.event.InitiatorPlan.{InitiatorPlan}
use Rattle.mta_session.specs.declared.event.Side.{Side}
use Rattle.mta_session.specs.declared.event.Side.TheVariants as side
use Rattle.mta_session.specs.declared.peer.Peer.{Peer}
use Rattle.mta_session.specs.declared.phase.Phase.{Phase}
use Rattle.mta_session.specs.declared.phase.Phase.TheVariants as phase
use Rattle.mta_session.specs.Session.{new_initiator}
use Rattle.mta_session.specs.State.{State, is_initiator, in_phase}
use Rattle.mta_session.specs.Wanted.{answer_for, puts_accept, with_lane}
use Rattle.mta_session.specs.Follows.{Does, counted}
use Rattle.mta_session.specs.Fits.{FitsAt, IsBlank, HasCall, HasLine}
use Rattle.mta_session_laws.specs.Runs.{Turn, IsTurn}
use Rattle.mta_session_laws.specs.Turning.{kept, EventsGo, is_last_phase}
use Rattle.mta_session_laws.proofs.Opening.{wanted_in}
use Rattle.mta_session_laws.proofs.Whole.{is_ended}
use Rattle.mta_session_laws.specs.Order.{is_asking}
use Rattle.mta_transfer_laws.proofs.Histories.{upto-take}
use Rattle.mta_transfer_laws.proofs.Values.{stay}
use Rattle.mta_transfer_laws.specs.Sendings.{ArePlain}
use Rattle.mta_transfer_laws.specs.Sessions as x
use Rattle.mta_transfer_laws.specs.Sessions.{SessionEvent, Got, Refused, Put, Made, Looked, sending_event}
use Rattle.mta_transfer_laws.specs.Sessions.{sending_events}
use Rattle.mta_transfer_laws.specs.Sessions.{sending_step_of, send_all, turn_after, gots_of, puts_of, answer_unit}
use Rattle.mta_transfer_laws.specs.Sessions.{transfer_unit}
use Rattle.mta_lane_match_laws.proofs.Lanes.{lanes_stay}
use Rattle.mta_lane_match_laws.specs.Asks.{IsAskOf}
use Rattle.mta_session_list_laws.specs.Calls.{StepOn, step_told}
use Rattle.mta_session_list_laws.specs.Lists.{HasAt, step_for, step_by}
use Rattle.mta_session_list_laws.specs.Lists.{AreValues}
use Rattle.mta_session_list_laws.specs.Laws.{SendOwesAt, SendOwesNothingAt}
use Rattle.mta_session_list_laws.specs.Standing.{Stands, Looks, StandsAs, IsInTurn, ComesTrue}
use Rattle.mta_session_list_laws.proofs.Found.{never}
use Rattle.mta_session_list_laws.proofs.Lanes.{lane_at, step_leads}
use Rattle.mta_session_list_laws.proofs.Ordering.{is_some}
use Rattle.mta_session_list_laws.proofs.ReceivedAll.{open_has, opening_has, opening_lane, opening_not_last}
use Rattle.mta_session_list_laws.proofs.ReceivedLists.{any_silent}
use Rattle.mta_session_list_laws.proofs.ReceivingLaw.{opened_half}
use Rattle.mta_session_list_laws.proofs.ReceivingLists.{Part, at_opening, in_open, at_last, at_none, Asked}
use Rattle.mta_session_list_laws.proofs.ReceivingLists.{open_not_last}
use Rattle.mta_session_list_laws.proofs.Waiting.{goes_with}
use Rattle.mta_session_list_laws.proofs.SendingGoes.{Allowed}
use Rattle.mta_session_list_laws.proofs.SendingPhases.{one, SendAt, Has, SendWaits}
use Rattle.mta_session_list_laws.proofs.SendingOpening.{SendTells, is_soon, accept_waits}
use Rattle.mta_session_list_laws.proofs.SendingLooks.{RestsSend, SendKeeps, NotYet}
use Rattle.mta_session_list_laws.proofs.SendingList.{none_here}

-- ---- the turn of the lock

soon_asks : (p : Phase) (q : Ask) (from seen : ℕ) → goes_with (action.Ask q) p ≡ true → is_soon p ≡ true
    → IsInTurn p from seen → seen ≡ from
soon_asks phase.Begin q from seen w i k = absurd (never w)
soon_asks phase.AsksValues q from seen w i k = k
soon_asks phase.AsksRecovery q from seen w i k = k
soon_asks (phase.AsksReceiving st) q from seen w i k = k
soon_asks (phase.AsksResumed st) q from seen w i k = k
soon_asks p q from seen w i k = absurd (never i)

module _ (spells : List ℕ → Bool) (history : List Seen) where
  pub in_turn : (p : Phase) (a : Action) (e : Event) (from seen : ℕ) → ComesTrue spells history from seen p a e
      → goes_with a p ≡ true → is_soon p ≡ true → seen ≡ from
  in_turn p (action.Ask q) (event.Reply y) from seen c w i = soon_asks p q from seen w i c.0
  in_turn p (action.Ask q) any2 from seen c w i = c
  in_turn p any1 e from seen c w i = c

-- ---- values

module _ (spells : List ℕ → Bool) (history : List Seen) (lane : ℕ) (allow : IsOfLanes spells history)
    (size window : ℕ) (values : AreValues history lane size window) where
  -- a lane that is agreed has these values
  agreed_values : (n : ℕ) → (lane_in lane (take n history)).agreed ≡ true
      → (size ≡ (lane_in lane (take n history)).size) × (window ≡ (lane_in lane (take n history)).window)
  agreed_values n agreed =
      let whole : take n history ++ drop n history ≡ history = take-append-drop n history in
      let stays = stay spells (take n history) (drop n history) lane
      (subst (λ z. IsOfLanes spells z) (sym whole) allow) agreed in
      let there = values (ap (λ (z : List Seen). (lane_in lane z).agreed) (sym whole) ∙ stays.0) in (
        sym there.0 ∙ ap (λ (z : List Seen). (lane_in lane z).size) (sym whole) ∙ stays.1,
        sym there.1 ∙ ap (λ (z : List Seen). (lane_in lane z).window) (sym whole) ∙ stays.2,
      )

  -- a lane is opened, or agreed, with these
  agreed_by : (p : ℕ) (sz w : ℕ) (step : SeenStep) → slice_get history p ≡ Some (On lane step)
      → ((l : Halves) → ((halves_after l step).agreed ≡ true) × ((halves_after l step).size ≡ sz)
      × ((halves_after l step).window ≡ w))
      → (size ≡ sz) × (window ≡ w)
  agreed_by p sz w step is sets =
      let leads = step_leads spells history lane allow.allowed p step is in
      let set = sets (lane_at spells history lane allow.allowed p) in
      let same : lane_in lane (take (suc p) history) ≡ halves_after (lane_at spells history lane allow.allowed p) step =
      sym (upto-take history lane (suc p) (omega arith)) ∙ leads in
      let there = agreed_values (suc p) (ap (λ (z : Halves). z.agreed) same ∙ set.0) in (
        there.0 ∙ ap (λ (z : Halves). z.size) same ∙ set.1,
        there.1 ∙ ap (λ (z : Halves). z.window) same ∙ set.2,
      )

-- ---- what the spool told

abbrev is_ask : Action → Bool
is_ask (action.Ask q) = true
is_ask a = false

-- a question is the action of a phase that asks
never_with : (a : Action) (p : Phase) → is_asking p ≡ true → is_ask a ≡ false → goes_with a p ≡ true → ⊥
never_with (action.Ask q) p i k w = never (sym k)
never_with action.Read phase.Begin i k w = never i
never_with action.Read phase.ReadsOpen i k w = never i
never_with action.Read phase.ReadsAnswer i k w = never i
never_with action.Read phase.Reads i k w = never i
never_with action.Read phase.ReadsCloseAck i k w = never i
never_with action.Read p i k w = never w
never_with (action.Put u) phase.PutsOpen i k w = never i
never_with (action.Put u) phase.PutsAccept i k w = never i
never_with (action.Put u) phase.Puts i k w = never i
never_with (action.Put u) phase.PutsClose i k w = never i
never_with (action.Put u) (phase.PutsLast y) i k w = never i
never_with (action.Put u) p i k w = never w
never_with (action.Finish y) (phase.Ended z) i k w = never i
never_with (action.Finish y) p i k w = never w

module _ (spells : List ℕ → Bool) (history : List Seen) (lane : ℕ) (allow : IsOfLanes spells history)
    (size window : ℕ) (values : AreValues history lane size window) (accepted : Bool) (low : ℕ) where
  abbrev half : Halves
  half = lane_in lane (take low history)

  look_of : (from seen : ℕ) (t : State) (q z : Ask) (y : Reply) → q ≡ z → step_told z y ≡ None
      → StandsAs spells history from seen q y (step_told q y) → Looks spells history from seen z y
  look_of from seen t q z y e n k =
      subst (λ o. StandsAs spells history from seen z y o) n
      (subst (λ w. StandsAs spells history from seen w y (step_told w y)) e k)

  on_reply : (p : Phase) (t : State) (q : Ask) (y : Reply) (from seen : ℕ) → IsAskOf p t q
      → StandsAs spells history from seen q y (step_told q y) → t.lane ≡ lane → (is_soon p ≡ true → seen ≡ low)
      → SendTells half size window accepted p t (event.Reply y)
  on_reply phase.AsksValues t q (reply.Values (Some v)) from seen a k e soon =
      let look = look_of from seen t q (ask.Values t.lane) (reply.Values (Some v)) a refl k in
      λ agreed.
      let told = look.told in
      let there : lane_in t.lane (take seen history) ≡ half =
      ap (λ (n : ℕ). lane_in n (take seen history)) e ∙ ap (λ (n : ℕ). lane_in lane (take n history)) (soon refl) in
      let is = agreed_values spells history lane allow size window values low
      (ap (λ (z : Halves). z.agreed) (sym there) ∙ told.agreed_is ∙ agreed) in (
        is.0 ∙ ap (λ (z : Halves). z.size) (sym there) ∙ told.size_is,
        is.1 ∙ ap (λ (z : Halves). z.window) (sym there) ∙ told.window_is,
      )
  on_reply phase.AsksRecovery t q (reply.Recovery (Some st)) from seen a k e soon =
      let look = look_of from seen t q (ask.Recovery t.lane) (reply.Recovery (Some st)) a refl k in
      subst (λ n. (lane_in lane (take n history)).state ≡ st) (soon refl)
      (subst (λ n. (lane_in n (take seen history)).state ≡ st) e look.told)
  on_reply (phase.AsksResumed r) t q (reply.Resumed (Ok (Some o))) from seen a k e soon =
      let look = look_of from seen t q (ask.Resumed t.lane) (reply.Resumed (Ok (Some o))) a refl k in
      subst (λ n. (lane_in lane (take n history)).octets ≡ o.octets) (soon refl)
      (subst (λ n. (lane_in n (take seen history)).octets ≡ o.octets) e look.told)
  on_reply phase.AsksAgree t q (reply.LaneAgree (Ok z)) from seen a k e soon =
      let y : Reply = reply.LaneAgree (Ok z) in
      let step : SeenStep = h.LaneAgree (1024 * t.checkpoint) t.window in
      let there : Stands history from seen (record { lane = t.lane; step = step }) =
      subst (λ w. StandsAs spells history from seen w y (step_told w y)) a k in
      agreed_by spells history lane allow size window values (seen - 1) (1024 * t.checkpoint) t.window step
      (subst (λ n. slice_get history (seen - 1) ≡ Some (On n step)) e there.entry)
      (λ l. (refl, refl, refl))
  on_reply p t q y from seen a k e soon = tt

  -- what is told nowhere else
  abbrev asks_told : Phase → Bool
  asks_told phase.AsksValues = true
  asks_told phase.AsksRecovery = true
  asks_told (phase.AsksResumed r) = true
  asks_told phase.AsksAgree = true
  asks_told p = false

  abbrev TellsIn : Phase → State → Event → Type 0
  TellsIn p t e = SendTells half size window accepted p t e

  plain_tells : (p : Phase) (t : State) → TellsIn p t event.Go × TellsIn p t event.BadUnit × TellsIn p t event.Over
  plain_tells phase.AsksValues t = (tt, tt, tt)
  plain_tells phase.AsksRecovery t = (tt, tt, tt)
  plain_tells (phase.AsksResumed r) t = (tt, tt, tt)
  plain_tells phase.AsksAgree t = (tt, tt, tt)
  plain_tells p t = (tt, tt, tt)

  unit_tells : (p : Phase) (t : State) (y : AnyUnit) → TellsIn p t (event.Unit y)
  unit_tells phase.AsksValues t y = tt
  unit_tells phase.AsksRecovery t y = tt
  unit_tells (phase.AsksResumed r) t y = tt
  unit_tells phase.AsksAgree t y = tt
  unit_tells p t y = tt

  else_tells : (p : Phase) (t : State) (y : Reply) → asks_told p ≡ false → TellsIn p t (event.Reply y)
  else_tells phase.AsksValues t y i = absurd (never (sym i))
  else_tells phase.AsksRecovery t y i = absurd (never (sym i))
  else_tells (phase.AsksResumed r) t y i = absurd (never (sym i))
  else_tells phase.AsksAgree t y i = absurd (never (sym i))
  else_tells p t y i = tt

  none_asked : (a : Action) (p : Phase) → is_ask a ≡ false → goes_with a p ≡ true → asks_told p ≡ false
  none_asked (action.Ask q) p i w = absurd (never (sym i))
  none_asked a phase.AsksValues i w = absurd (never_with a phase.AsksValues refl i w)
  none_asked a phase.AsksRecovery i w = absurd (never_with a phase.AsksRecovery refl i w)
  none_asked a (phase.AsksResumed r) i w = absurd (never_with a (phase.AsksResumed r) refl i w)
  none_asked a phase.AsksAgree i w = absurd (never_with a phase.AsksAgree refl i w)
  none_asked a p i w = refl

  last_told : (p : Phase) → is_last_phase p ≡ true → asks_told p ≡ false
  last_told phase.AsksValues i = absurd (never i)
  last_told phase.AsksRecovery i = absurd (never i)
  last_told (phase.AsksResumed r) i = absurd (never i)
  last_told phase.AsksAgree i = absurd (never i)
  last_told p i = refl

  by_last : (p : Phase) (t : State) (q : Ask) (y : Reply) (from seen : ℕ) → IsAskOf p t q
      → StandsAs spells history from seen q y (step_told q y) → (b : Bool) → is_last_phase p ≡ b
      → (is_last_phase p ≡ false → t.lane ≡ lane) → (is_soon p ≡ true → seen ≡ low) → TellsIn p t (event.Reply y)
  by_last p t q y from seen a k false i e soon = on_reply p t q y from seen a k (e i) soon
  by_last p t q y from seen a k true i e soon = else_tells p t y (last_told p i)

  pub on_event : (p : Phase) (t : State) (a : Action) (e : Event) (from seen : ℕ) → Asked a t → t.phase ≡ p
      → goes_with a p ≡ true → ComesTrue spells history from seen p a e
      → (is_last_phase p ≡ false → t.lane ≡ lane) → (is_soon p ≡ true → seen ≡ low) → TellsIn p t e
  on_event p t a event.Go from seen k i w c e soon = (plain_tells p t).0
  on_event p t a event.BadUnit from seen k i w c e soon = (plain_tells p t).1
  on_event p t a event.Over from seen k i w c e soon = (plain_tells p t).2
  on_event p t a (event.Unit y) from seen k i w c e soon = unit_tells p t y
  on_event p t (action.Ask q) (event.Reply y) from seen k i w c e soon =
      by_last p t q y from seen (subst (λ z. IsAskOf z t q) i k) c.1 (is_last_phase p) refl e soon
  on_event p t (action.Put u) (event.Reply y) from seen k i w c e soon =
      else_tells p t y (none_asked (action.Put u) p refl w)
  on_event p t action.Read (event.Reply y) from seen k i w c e soon =
      else_tells p t y (none_asked action.Read p refl w)
  on_event p t (action.Finish z) (event.Reply y) from seen k i w c e soon =
      else_tells p t y (none_asked (action.Finish z) p refl w)

-- ---- all calls

module _ (g : EventsGo) (spells : List ℕ → Bool) (history : List Seen) (lane : ℕ) (allow : IsOfLanes spells history)
    (size window : ℕ) (values : AreValues history lane size window) (accepted : Bool) (low : ℕ) where
  abbrev whole : Halves
  whole = lane_in lane (take low history)

  -- a session that goes on keeps its lane
  pub lane_next : (early : Type 0) (b : SendEnd) (a : Action) (t : Turn) → IsTurn t
      → SendAt whole size window accepted early t.before.phase t.before a b
      → (is_last_phase t.before.phase ≡ false → t.before.lane ≡ lane) → Part t.before.phase
      → is_last_phase t.after.phase ≡ false → t.after.lane ≡ lane
  lane_next early b a t is k f (in_open i) n =
      (lanes_stay t.before t.event t.action t.after (open_has t.before.phase i) is.follows).0 ∙ f
      (open_not_last t.before.phase i)
  lane_next early b a t is k f (at_opening i) n =
      opening_lane t is (opening_has t.before.phase i) ∙ f (opening_not_last t.before.phase i)
  lane_next early b a t is k f (at_last i) n =
      absurd (never (sym n ∙ (any_silent t is i (is_ended t.before.phase) refl).last))
  lane_next early b a t is k f (at_none i) n =
      absurd (none_here whole size window accepted early t.before.phase t.before a b i k)

-- ---- where a list begins

dropping_none : (st : SendState) (k : ℕ) → is_sending st (last_of st) ≡ true → st ≡ state.Dropping k → ⊥
dropping_none (state.Sending j c) k i e = cc
dropping_none (state.Ending j c) k i e = cc
dropping_none any0 k i e = never i

call_side : (z : Side) (o : Option OpenUnit) → HasCall z o → is_initiator z ≡ false
call_side (side.Initiator p) o k = absurd k
call_side (side.Responder own) o k = refl

pub accept_new : (c v : State) (a : Option Answer) (act : Action) (new : State) → Does c (puts_accept v a) act new
    → new ≡ in_phase v phase.PutsAccept
accept_new c v (Some a) act new d = d.1
accept_new c v None act new d = elim d [ ]

module _ (g : EventsGo) (spells : List ℕ → Bool) (history : List Seen) (at : ℕ) (allow : IsOfLanes spells history)
    (size window : ℕ) where
  abbrev half_at : ℕ → Halves
  half_at lane = lane_in lane (take (at + 1) history)

  abbrev now : Type 0
  now = at + 1 ≡ at + 1

  pub begin_yet : (lane : ℕ) (accepted : Bool) → NotYet spells history lane allow (at + 1)
      (one (half_at lane) size window accepted)
  begin_yet lane accepted i e =
      let same : (lane_in lane (take (at + 1) history)).state ≡ state.Dropping (last_of (half_at lane).state) =
      ap (λ (l : Halves). l.state) (sym (upto-take history lane (at + 1) (omega arith))) ∙ e in
      dropping_none (half_at lane).state (last_of (half_at lane).state) i same

  -- an initiator's new lane
  pub planned : (p : InitiatorPlan) (units : ℕ) → HasAt history at (step_for p) → p.recovering ≡ false
      → Has (half_at p.lane) size window false (new_initiator p units)
  planned p units is e =
      let there : half_at p.lane ≡ halves_after unopened (h.LaneOpen false (1024 * p.checkpoint) p.window) =
      opened_half spells history p.lane allow at false (1024 * p.checkpoint) p.window
      (subst (λ b. HasAt history at (record {
        lane = p.lane;
        step = if b then h.Bind p.generation else h.LaneOpen false (1024 * p.checkpoint) p.window;
      })) e is) in
      let st : state.Idle 0 ≡ (half_at p.lane).state = ap (λ (z : Halves). z.state) (sym there) in
      ((st, refl, ap s.stage_on_link st), ((refl, refl), (λ i. absurd (never i)), refl))

  -- a responder's
  with_half : (t : State) (o : Option OpenUnit) (p : Option Peer) (n : ℕ) (new : State) (lane : ℕ)
      → IsBlank t → HasCall t.side o → HasLine p
      → HasAt history at (record { lane = lane; step = h.LaneOpen true (1024 * new.checkpoint) new.window })
      → AreValues history lane size window
      → new ≡ in_phase (with_lane t o p n) phase.PutsAccept
      → Has (half_at lane) size window true (with_lane t o p n)
  with_half t (Some o) (Some p) n new lane k called line is values e =
      let there = opened_half spells history lane allow at true (1024 * new.checkpoint) new.window is in
      let st : t.send.state ≡ (half_at lane).state =
      k.1 ∙ ap (λ (z : Halves). z.state) (sym there) in
      let stage : t.send.stage ≡ s.stage_on_link (half_at lane).state =
      k.0.2 ∙ ap s.stage_on_link (ap (λ (z : Halves). z.state) (sym there)) in
      let own = agreed_by spells history lane allow size window values at (1024 * new.checkpoint) new.window
      (h.LaneOpen true (1024 * new.checkpoint) new.window) is (λ l. (refl, refl, refl)) in (
        (st, kept_none t.send.state (half_at lane).octets t.send.octets (k.1), stage),
        (
          (refl, refl),
          (λ i. (
            own.0 ∙ ap (λ (z : State). 1024 * z.checkpoint) e,
            own.1 ∙ ap (λ (z : State). z.window) e,
          )),
          ap not (sym (call_side t.side (Some o) called)),
        ),
      )
    where
      kept_none : (st : SendState) (o x : List ℕ) → st ≡ state.Idle 0 → kept st o x ≡ o
      kept_none st o x e = ap (λ (z : SendState). kept z o x) e
  with_half t (Some o) None n new lane k called line is values e = absurd line
  with_half t None p n new lane k called line is values e = absurd (no_call t.side called)
    where
      no_call : (z : Side) → HasCall z None → ⊥
      no_call (side.Initiator p) k = k
      no_call (side.Responder own) k = k

  pub responds : (p : Phase) (t : State) (e : Event) (a : Action) (new : State) (y : StepOn)
      → step_by p e new ≡ Some y → HasAt history at y → FitsAt p t → AreValues history new.lane size window
      → Does (counted t e) (wanted_in p (counted t e) e) a new
      → SendWaits (half_at new.lane) size window true now (one (half_at new.lane) size window true)
      (wanted_in p (counted t e) e)
  responds (phase.AsksNewLane again) t (event.Reply (reply.LaneOpen (Ok lane))) a new y q is f values d =
      let v : State = with_lane t t.opened t.line lane in
      let same = accept_new t v (answer_for v.side v.opened v.line) a new d in
      accept_waits (half_at new.lane) size window true now v (answer_for v.side v.opened v.line)
      (with_half t t.opened t.line lane new new.lane f.0.0 f.0.1 f.1 (subst (λ z. HasAt history at z) (sym (some_is _ y
      q)) is) values same) refl
    where
      some_is : (y z : StepOn) → Some y ≡ Some z → y ≡ z
      some_is y z e = cc
  responds phase.AsksBind t (event.Reply (reply.Bind (Ok generation))) a new y q is f values d =
      (refl, ap not (sym (call_side t.side t.opened f.0.1)), refl)
  responds p t e a new y q is f values d = elim (is_some (step_by p e new) y q) [ ]

-- ---- what a list is made of

gots_plain : (us : List LaneUnit) → ArePlain (gots_of us)
gots_plain [] = tt
gots_plain (y ∷ us) = (tt, gots_plain us)

puts_plain : (us : List LaneUnit) → ArePlain (puts_of us)
puts_plain [] = tt
puts_plain (y ∷ us) = (tt, puts_plain us)

made_plain : (step : SeenStep) → ArePlain (sending_step_of step)
made_plain (h.Start gen k o) = (tt, tt)
made_plain (h.Confirm gen k n) = (tt, tt)
made_plain (h.To_end gen k) = (tt, tt)
made_plain (h.Sent gen k) = (tt, tt)
made_plain (h.Refused gen k) = (tt, tt)
made_plain (h.Denied gen k) = (tt, tt)
made_plain (h.Dropped gen k) = (tt, tt)
made_plain (h.Abandon k) = (tt, tt)
made_plain step = tt

if_plain : (b : Bool) (xs : List SendEvent) → ArePlain xs → ArePlain (if b then xs else [])
if_plain true xs k = k
if_plain false xs k = tt

event_plain : (lane : ℕ) (y : SessionEvent) → ArePlain (sending_event lane y)
event_plain lane (Got u) = gots_plain (answer_unit u)
event_plain lane (Put u) = puts_plain (transfer_unit u)
event_plain lane (Made p j step) = if_plain (j == lane) (sending_step_of step) (made_plain step)
event_plain lane any1 = tt

both_plain : (xs ys : List SendEvent) → ArePlain xs → ArePlain ys → ArePlain (xs ++ ys)
both_plain [] ys p q = q
both_plain (v ∷ vs) ys p q = (p.0, both_plain vs ys p.1 q)

pub all_plain : (lane : ℕ) (ys : List SessionEvent) → ArePlain (sending_events lane ys)
all_plain lane [] = tt
all_plain lane (y ∷ ys) = both_plain (sending_event lane y) (sending_events lane ys) (event_plain lane y)
    (all_plain lane ys)

both_allowed : (b : SendEnd) (xs ys : List SendEvent) → Allowed b xs → Allowed (send_all b xs) ys → Allowed b (xs ++ ys)
both_allowed b [] ys p q = q
both_allowed b (v ∷ vs) ys p q = (p.0, both_allowed (s.send_after b v) vs ys p.1 q)

pub keeps_allowed : (lane : ℕ) (v : x.Turn) (b : SendEnd) (ys : List SessionEvent) → SendKeeps lane v b ys
    → Allowed b (sending_events lane ys)
keeps_allowed lane v b [] k = tt
keeps_allowed lane v b (y ∷ ys) k =
    both_allowed b (sending_event lane y) (sending_events lane ys) k.1
    (keeps_allowed lane (turn_after v y) (send_all b (sending_event lane y)) ys k.2)

rests_owes : (v : x.Turn) (b : SendEnd) (y : SessionEvent) → RestsSend v b y → SendOwesAt v b y
rests_owes v b (Got u) k = k
rests_owes v b (Refused u) k = k
rests_owes v b any2 k = tt

pub keeps_owes : (lane : ℕ) (v : x.Turn) (b : SendEnd) (ys : List SessionEvent) → SendKeeps lane v b ys
    → SendOwesNothingAt lane v b ys
keeps_owes lane v b [] k = tt
keeps_owes lane v b (y ∷ ys) k =
    (rests_owes v b y k.0, keeps_owes lane (turn_after v y) (send_all b (sending_event lane y)) ys k.2)
