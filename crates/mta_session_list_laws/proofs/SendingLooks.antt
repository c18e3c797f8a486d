-- Abandons of other passes in a session's list, as its sending end sees them: before a look or a step of the half, and
-- never before one that goes on with the activity.
use Rattle.std.proofs.Common.{◌≡◌, ◌<◌, ◌≤◌, ℕ, suc, ◌+◌, if◌then◌else◌, Bool, true, Option}
use Rattle.std.proofs.Common.{Some, None, slice_get, List, [], ◌∷◌, ◌++◌, length, refl, sym, ap, subst, ◌∙◌}
use Rattle.std.proofs.Common.{arith}
use Rattle.std.proofs.lemmas.Bool.{eq-eqb}
use Rattle.mta_lane_send.specs.declared.state.SendState.{SendState}
use Rattle.mta_lane_send.specs.declared.state.SendState.TheVariants as state
use Rattle.mta_lane_send.specs.Half.{is_idle, is_sending, is_ending, goes_on, last_of, confirmed_at}
use Rattle.mta_transfer_rules.specs.Units.{LaneUnit}
use Rattle.mta_transfer_rules.specs.Units as u
use Rattle.mta_transfer_rules.specs.Sending as s
use Rattle.mta_transfer_rules.specs.Sending.{SendEnd, SendEvent, SendStep}
use Rattle.mta_transfer_rules.specs.Lanes as h
use Rattle.mta_transfer_rules.specs.Lanes.{Halves, SeenStep, Seen, On, Allows, halves_after}
use Rattle.mta_transfer_laws.specs.History.{IsOfLanes}
use Rattle.mta_session.specs.declared.phase.OwnStep.{OwnStep}
use Rattle.mta_session.specs.declared.phase.OwnStep.TheVariants as own
use Rattle.mta_session.specs.State.{State}
use Rattle.mta_session.specs.Sending.{step_of}
use Rattle.mta_transfer_laws.specs.Sessions as x
use Rattle.mta_transfer_laws.specs.Sessions.{SessionEvent, Got, Refused, Made, Looked, SendOwesNothing, turn_after}
use Rattle.mta_transfer_laws.specs.Sessions.{send_all}
use Rattle.mta_transfer_laws.specs.Sessions.{sending_event, sending_step_of, seen_after, step_seen, IsSeen}
use Rattle.mta_transfer_laws.proofs.Unseen.{before-settling}
use Rattle.mta_session_list_laws.specs.Abandons.{step_upto, has_before, abandoned_upto, abandon_at, given_up}
use Rattle.mta_session_list_laws.specs.Abandons.{with_abandons}
use Rattle.mta_session_list_laws.proofs.Found.{never, Placed, kept, placed, placed_upto}
use Rattle.mta_session_list_laws.proofs.Insertion as insertion
use Rattle.mta_session_list_laws.proofs.Lanes.{lane_at, step_allowed, step_leads, stays_undropped, none_confirms}
use Rattle.mta_session_list_laws.proofs.Lanes.{none_ends}
use Rattle.mta_session_list_laws.proofs.SendingGoes.{Allowed}

-- ---- what is asked of a list

abbrev pub RestsSend : x.Turn → SendEnd → SessionEvent → Type 0
RestsSend v e (Got y) = SendOwesNothing v e
RestsSend v e (Refused y) = SendOwesNothing v e
RestsSend v e y = Unit {0}

abbrev pub SendKeeps : (lane : ℕ) → x.Turn → SendEnd → List SessionEvent → Type 0
SendKeeps lane v e [] = Unit {0}
SendKeeps lane v e (y ∷ ys) = RestsSend v e y × Allowed e (sending_event lane y)
    × SendKeeps lane (turn_after v y) (send_all e (sending_event lane y)) ys

-- ---- one event

module _ (history : List Seen) (lane : ℕ) where
  abbrev pub With : ℕ → SendEnd → List SessionEvent → List SessionEvent
  With from e ys = with_abandons history lane from e ys

  -- an event that has nothing to do with the half
  pub silent_keeps : (v : x.Turn) (from : ℕ) (e : SendEnd) (y : SessionEvent) (rest : List SessionEvent)
      → has_before lane y ≡ None → seen_after lane from y ≡ from → RestsSend v e y → Allowed e (sending_event lane y)
      → SendKeeps lane (turn_after v y) (send_all e (sending_event lane y))
      (With from (send_all e (sending_event lane y)) rest)
      → SendKeeps lane v e (With from e (y ∷ rest))
  silent_keeps v from e y rest n q r a k =
      subst (λ o. SendKeeps lane v e (abandon_at lane e (abandoned_upto history lane from e o) ++ y ∷
      With (seen_after lane from y)
      (send_all (given_up e (abandoned_upto history lane from e o)) (sending_event lane y)) rest))
      (sym n) (
        r,
        a,
        subst (λ z. SendKeeps lane (turn_after v y) (send_all e (sending_event lane y))
            (With z (send_all e (sending_event lane y)) rest)) (sym q) k,
      )

  made_keeps : (v : x.Turn) (e : SendEnd) (p k : ℕ) (ws : List SessionEvent)
      → is_sending e.state (last_of e.state) ≡ true → SendKeeps lane v (s.made e s.Abandon) ws
      → SendKeeps lane v e (Made p lane (h.Abandon k) ∷ ws)
  made_keeps v e p k ws i rest =
      subst (λ z. Unit {0} × Allowed e z × SendKeeps lane v (send_all e z) ws)
      (sym (insertion.own history lane p k)) (tt, (i, tt), rest)

  -- ---- a look

  abbrev Looks : x.Turn → (from n : ℕ) → SendEnd → List SessionEvent → Option ℕ → Type 0
  Looks v from n e rest found =
      SendKeeps lane v e (abandon_at lane e found ++ Looked n x.At_sending ∷ With n (given_up e found) rest)

  by_look : (v : x.Turn) (from n : ℕ) (e : SendEnd) (rest : List SessionEvent) (found : Option ℕ)
      → (IsSeen history lane from n e → SendKeeps lane v e (With n e rest))
      → ((p : ℕ) → is_sending e.state (last_of e.state) ≡ true → from ≤ p → p < n
      → SendKeeps lane v (s.made e s.Abandon) (With n (s.made e s.Abandon) rest))
      → Placed history lane from n e found → Looks v from n e rest found
  by_look v from n e rest found one some (kept seen) = (tt, tt, one seen)
  by_look v from n e rest found one some (placed p i a b is none) =
      made_keeps v e p (last_of e.state) (Looked n x.At_sending ∷ With n (s.made e s.Abandon) rest) i
      (tt, tt, some p i a b)

  pub look_keeps : (v : x.Turn) (from n : ℕ) (e : SendEnd) (rest : List SessionEvent) → from ≤ n
      → (IsSeen history lane from n e → SendKeeps lane v e (With n e rest))
      → ((p : ℕ) → is_sending e.state (last_of e.state) ≡ true → from ≤ p → p < n
      → SendKeeps lane v (s.made e s.Abandon) (With n (s.made e s.Abandon) rest))
      → SendKeeps lane v e (With from e (Looked n x.At_sending ∷ rest))
  look_keeps v from n e rest le one some =
      by_look v from n e rest (abandoned_upto history lane from e (Some n)) one some
      (placed_upto history lane from n e le)

  -- ---- a step

  step_is : (p j : ℕ) (step : SeenStep) (events : List SendEvent) → j ≡ lane → sending_step_of step ≡ events
      → sending_event lane (Made p j step) ≡ events
  step_is p j step events q o =
      ap (λ (b : Bool). if b then sending_step_of step else []) (eq-eqb j lane q) ∙ o

  front : (v : x.Turn) (e : SendEnd) (y : SessionEvent) (st : SendStep) (ws : List SessionEvent)
      → turn_after v y ≡ v → RestsSend v e y → sending_event lane y ≡ s.Made st ∷ [] → s.MayMake e st
      → SendKeeps lane v (s.made e st) ws → SendKeeps lane v e (y ∷ ws)
  front v e y st ws t r q m k = (
    r,
    subst (λ z. Allowed e z) (sym q) (m, tt),
    subst (λ z. SendKeeps lane z (send_all e (sending_event lane y)) ws) (sym t)
        (subst (λ z. SendKeeps lane v (send_all e z) ws) (sym q) k),
  )

  by_step : (v : x.Turn) (from p j : ℕ) (e : SendEnd) (step : SeenStep) (st : SendStep) (rest : List SessionEvent)
      (found : Option ℕ) → sending_event lane (Made p j step) ≡ s.Made st ∷ []
      → (IsSeen history lane from p e → s.MayMake e st × SendKeeps lane v (s.made e st) (With (p + 1) (s.made e st)
      rest))
      → ((q : ℕ) → is_sending e.state (last_of e.state) ≡ true → q < p
      → slice_get history q ≡ Some (On lane (h.Abandon (last_of e.state)))
      → s.MayMake (s.made e s.Abandon) st
      × SendKeeps lane v (s.made (s.made e s.Abandon) st) (With (p + 1) (s.made (s.made e s.Abandon) st) rest))
      → Placed history lane from p e found
      → SendKeeps lane v e (abandon_at lane e found ++ Made p j step ∷
      With (p + 1) (send_all (given_up e found) (s.Made st ∷ [])) rest)
  by_step v from p j e step st rest found q one some (kept seen) =
      let k = one seen in
      front v e (Made p j step) st (With (p + 1) (s.made e st) rest) refl tt q k.0 k.1
  by_step v from p j e step st rest found q one some (placed w i a b is none) =
      let k = some w i b is in
      let behind : List SessionEvent = With (p + 1) (s.made (s.made e s.Abandon) st) rest in
      made_keeps v e w (last_of e.state) (Made p j step ∷ behind) i
      (front v (s.made e s.Abandon) (Made p j step) st behind refl tt q k.0 k.1)

  pub step_keeps : (v : x.Turn) (from p j : ℕ) (e : SendEnd) (step : SeenStep) (st : SendStep)
      (rest : List SessionEvent) → j ≡ lane → sending_step_of step ≡ s.Made st ∷ [] → from ≤ p
      → (IsSeen history lane from p e → s.MayMake e st × SendKeeps lane v (s.made e st) (With (p + 1) (s.made e st)
      rest))
      → ((q : ℕ) → is_sending e.state (last_of e.state) ≡ true → q < p
      → slice_get history q ≡ Some (On lane (h.Abandon (last_of e.state)))
      → s.MayMake (s.made e s.Abandon) st
      × SendKeeps lane v (s.made (s.made e s.Abandon) st) (With (p + 1) (s.made (s.made e s.Abandon) st) rest))
      → SendKeeps lane v e (With from e (Made p j step ∷ rest))
  step_keeps v from p j e step st rest same o le one some =
      let q : sending_event lane (Made p j step) ≡ s.Made st ∷ [] = step_is p j step (s.Made st ∷ []) same o in
      subst (λ z. SendKeeps lane v e
      (abandon_at lane e (abandoned_upto history lane from e (step_upto p z)) ++ Made p j step ∷
      With (step_seen from p z) (send_all (given_up e (abandoned_upto history lane from e (step_upto p z))) z) rest))
      (sym q)
      (by_step v from p j e step st rest (abandoned_upto history lane from e (Some p)) q one some
      (placed_upto history lane from p e le))

-- ---- which step an Abandon stands before

is_past : (st : SendState) (k : ℕ) → is_ending st k ≡ true → is_sending st (last_of st) ≡ true → ⊥
is_past (state.Ending j c) k a b = never b
is_past any0 k a b = never a

-- none before the step Sent
sent_past : (e : SendEnd) (y : LaneUnit) → s.IsCalledBy e s.Sent y → is_sending e.state (last_of e.state) ≡ true → ⊥
sent_past e (u.EndAck k) c i = is_past e.state k c i
sent_past e u.Completed c i = is_past e.state (last_of e.state) c.0 i
sent_past e y c i = absurd c

pub sent_none : (e : SendEnd) → s.MayMake e s.Sent → is_sending e.state (last_of e.state) ≡ true → ⊥
sent_none e m i = sent_past e m.0 m.2 i

pub idle_none : (st : SendState) → is_idle st ≡ true → is_sending st (last_of st) ≡ true → ⊥
idle_none (state.Idle l) a b = never b
idle_none any0 a b = never a

confirmed_stays : (st : SendState) (k n j : ℕ) → goes_on st k ≡ true → confirmed_at st n ≡ state.Dropping j → ⊥
confirmed_stays (state.Sending i c) k n j g e = cc
confirmed_stays (state.Ending i c) k n j g e = cc
confirmed_stays any0 k n j g e = never g

-- a step of the session on its lane
abbrev pub own_seen : State → OwnStep → SeenStep
own_seen t (own.Confirm n) = h.Confirm t.generation (last_of t.send.state) n
own_seen t own.Ending = h.To_end t.generation (last_of t.send.state)
own_seen t own.Sent = h.Sent t.generation (last_of t.send.state)
own_seen t own.Dropped = h.Dropped t.generation (last_of t.send.state)
own_seen t (own.Refused kind) = h.Refused t.generation (last_of t.send.state)

module _ (spells : List ℕ → Bool) (history : List Seen) (lane : ℕ) (allow : IsOfLanes spells history) where
  -- what the list's end sends was not given up so far
  abbrev pub NotYet : ℕ → SendEnd → Type 0
  NotYet n e =
      is_sending e.state (last_of e.state) ≡ true
      → (lane_at spells history lane allow.allowed n).state ≡ state.Dropping (last_of e.state) → ⊥

  pub not_yet_seen : (from n : ℕ) (e : SendEnd) → from ≤ n → n ≤ length history → IsSeen history lane from n e
      → NotYet from e → NotYet n e
  not_yet_seen from n e le within seen k i =
      stays_undropped spells history lane allow.allowed (last_of e.state) from n le within (seen i) (k i)

  pub not_yet_given : (n : ℕ) (e : SendEnd) → NotYet n (s.made e s.Abandon)
  not_yet_given n e i = absurd (never i)

  behind : (p : ℕ) (step : SeenStep) → slice_get history p ≡ Some (On lane step)
      → lane_at spells history lane allow.allowed (p + 1)
      ≡ halves_after (lane_at spells history lane allow.allowed p) step
  behind p step is =
      let e : p + 1 ≡ suc p = omega arith in
      ap (λ (n : ℕ). lane_at spells history lane allow.allowed n) e
      ∙ step_leads spells history lane allow.allowed p step is

  pub not_yet_started : (p g k : ℕ) (o : List ℕ) (e : SendEnd) → slice_get history p ≡ Some (On lane (h.Start g k o))
      → NotYet (p + 1) e
  not_yet_started p g k o e is i q =
      let same : state.Sending k 0 ≡ state.Dropping (last_of e.state) =
      ap (λ (l : Halves). l.state) (sym (behind p (h.Start g k o) is)) ∙ q in
      cc

  pub not_yet_own : (t : State) (step : OwnStep) (e : SendEnd) (p : ℕ)
      → slice_get history p ≡ Some (On lane (own_seen t step)) → NotYet (p + 1) (s.made e (step_of step))
  not_yet_own t (own.Confirm n) e p is i q =
      confirmed_stays (lane_at spells history lane allow.allowed p).state (last_of t.send.state) n
      (last_of (s.made e (s.Confirm n)).state)
      (step_allowed spells history lane allow.allowed p _ is).1
      (ap (λ (l : Halves). l.state) (sym (behind p _ is)) ∙ q)
  not_yet_own t any1 e p is i q = never i

  -- ---- own steps

  abbrev Keeps : x.Turn → ℕ → SendEnd → List SessionEvent → Type 0
  Keeps v n e rest = SendKeeps lane v e (With history lane n e rest)

  settles : (v : x.Turn) (n : ℕ) (e : SendEnd) (st : SendStep) (rest : List SessionEvent) → x.IsSettling st
      → is_sending e.state (last_of e.state) ≡ true → s.MayMake e st → Keeps v n (s.made e st) rest
      → s.MayMake (s.made e s.Abandon) st × Keeps v n (s.made (s.made e s.Abandon) st) rest
  settles v n e st rest i sends m k =
      let z = before-settling e st i sends m in
      (z.1, subst (λ w. Keeps v n w rest) (sym z.2) k)

  pub own_keeps : (v : x.Turn) (from p : ℕ) (t : State) (step : OwnStep) (e : SendEnd) (rest : List SessionEvent)
      → e.state ≡ t.send.state → s.MayMake e (step_of step) → from ≤ p
      → slice_get history p ≡ Some (On lane (own_seen t step))
      → Keeps v (p + 1) (s.made e (step_of step)) rest
      → SendKeeps lane v e (With history lane from e (Made p lane (own_seen t step) ∷ rest))
  own_keeps v from p t (own.Confirm n) e rest q m le is k =
      step_keeps history lane v from p lane e (own_seen t (own.Confirm n)) (s.Confirm n) rest refl refl le (λ seen. (
        m,
        k,
      ))
      (λ w i b there. absurd (none_confirms spells history lane allow.allowed (last_of e.state) w p t.generation n there
      b
      (subst (λ z. slice_get history p ≡ Some (On lane (h.Confirm t.generation (last_of z) n))) (sym q) is)))
  own_keeps v from p t own.Ending e rest q m le is k =
      step_keeps history lane v from p lane e (own_seen t own.Ending) s.To_end rest refl refl le (λ seen. (m, k))
      (λ w i b there. absurd (none_ends spells history lane allow.allowed (last_of e.state) w p t.generation there b
      (subst (λ z. slice_get history p ≡ Some (On lane (h.To_end t.generation (last_of z)))) (sym q) is)))
  own_keeps v from p t own.Sent e rest q m le is k =
      step_keeps history lane v from p lane e (own_seen t own.Sent) s.Sent rest refl refl le (λ seen. (m, k))
      (λ w i b there. absurd (sent_none e m i))
  own_keeps v from p t own.Dropped e rest q m le is k =
      step_keeps history lane v from p lane e (own_seen t own.Dropped) s.Dropped rest refl refl le (λ seen. (m, k))
      (λ w i b there. settles v (p + 1) e s.Dropped rest tt i m k)
  own_keeps v from p t (own.Refused kind) e rest q m le is k =
      step_keeps history lane v from p lane e (own_seen t (own.Refused kind)) s.Refused rest refl refl le (λ seen. (
        m,
        k,
      ))
      (λ w i b there. settles v (p + 1) e s.Refused rest tt i m k)

  pub denied_keeps : (v : x.Turn) (from p j g k : ℕ) (e : SendEnd) (rest : List SessionEvent) → j ≡ lane
      → s.MayMake e s.Denied → from ≤ p → Keeps v (p + 1) (s.made e s.Denied) rest
      → SendKeeps lane v e (With history lane from e (Made p j (h.Denied g k) ∷ rest))
  denied_keeps v from p j g k e rest q m le more =
      step_keeps history lane v from p j e (h.Denied g k) s.Denied rest q refl le (λ seen. (m, more))
      (λ w i b there. settles v (p + 1) e s.Denied rest tt i m more)

  pub sent_keeps : (v : x.Turn) (from p j g k : ℕ) (e : SendEnd) (rest : List SessionEvent) → j ≡ lane
      → s.MayMake e s.Sent → from ≤ p → Keeps v (p + 1) (s.made e s.Sent) rest
      → SendKeeps lane v e (With history lane from e (Made p j (h.Sent g k) ∷ rest))
  sent_keeps v from p j g k e rest q m le more =
      step_keeps history lane v from p j e (h.Sent g k) s.Sent rest q refl le (λ seen. (m, more))
      (λ w i b there. absurd (sent_none e m i))

  pub start_keeps : (v : x.Turn) (from p j g k : ℕ) (o : List ℕ) (e : SendEnd) (rest : List SessionEvent) → j ≡ lane
      → s.MayMake e (s.Start o) → from ≤ p → Keeps v (p + 1) (s.made e (s.Start o)) rest
      → SendKeeps lane v e (With history lane from e (Made p j (h.Start g k o) ∷ rest))
  start_keeps v from p j g k o e rest q m le more =
      step_keeps history lane v from p j e (h.Start g k o) (s.Start o) rest q refl le (λ seen. (m, more))
      (λ w i b there. absurd (idle_none e.state m.0 i))
