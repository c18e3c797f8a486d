-- Abandons that are put into a list: each stands where the rules of session lists ask for it, and they leave the rules
-- of the receiving half and of the turn as they were.
use Rattle.std.proofs.Common.{◌≡◌, ◌≤◌, ℕ, ◌+◌, ◌==◌, if◌then◌else◌, Bool, true, false, Option, Some, None}
use Rattle.std.proofs.Common.{List, [], ◌∷◌, ◌++◌, refl, sym, ap, subst, ◌∙◌, arith}
use Rattle.std.proofs.lemmas.Bool.{eq-eqb}
use Rattle.mta_lane_send.specs.Half.{last_of}
use Rattle.mta_units.specs.declared.unit.Unit.TheVariants as unit
use Rattle.mta_transfer_rules.specs.Sending as s
use Rattle.mta_transfer_rules.specs.Sending.{SendEnd, SendEvent}
use Rattle.mta_transfer_rules.specs.Receiving.{RecvEvent}
use Rattle.mta_transfer_rules.specs.Lanes as h
use Rattle.mta_transfer_rules.specs.Lanes.{SeenStep, Seen, On}
use Rattle.mta_transfer_laws.specs.Sessions as x
use Rattle.mta_transfer_laws.specs.Sessions.{SessionEvent, Looked, Made, Got, Refused, Put, sending_step_of}
use Rattle.mta_transfer_laws.specs.Sessions.{sending_event}
use Rattle.mta_transfer_laws.specs.Sessions.{receiving_event, receiving_events, Turn, KeepsTurn, TurnAllows, turn_after}
use Rattle.mta_transfer_laws.specs.Sessions.{RefusesLast, EndsSo, StepsStand, IsSeen, step_seen, StepSees, Sees}
use Rattle.mta_transfer_laws.specs.Sessions.{seen_after}
use Rattle.mta_transfer_laws.specs.Sessions.{PlacesAbandons, send_all}
use Rattle.mta_session_list_laws.specs.Abandons.{step_upto, has_before, abandoned_upto, abandon_at, given_up}
use Rattle.mta_session_list_laws.specs.Abandons.{with_abandons}
use Rattle.mta_session_list_laws.specs.Laws.{RisesBehind, Rises}
use Rattle.mta_session_list_laws.proofs.Found.{never, Placed, kept, placed, placed_upto}

-- ---- an event

module _ (history : List Seen) (lane : ℕ) where
  -- it has nothing to do with the sending half, or it is a step of it or a look at it
  pub data Shape (y : SessionEvent) : Type 0 where
    silent : has_before lane y ≡ None → ((from : ℕ) (e : SendEnd) → Sees history lane from e y) → Shape y
    half : (upto : ℕ) → has_before lane y ≡ Some upto
        → ((from : ℕ) (e : SendEnd) → from ≤ upto → IsSeen history lane from upto e → Sees history lane from e y)
        → ((from to : ℕ) → seen_after lane from y ≡ seen_after lane to y) → Shape y

  made_shape : (p j : ℕ) (step : SeenStep) (events : List SendEvent)
      → sending_event lane (Made p j step) ≡ events → Shape (Made p j step)
  made_shape p j step [] e =
      silent (ap (λ (z : List SendEvent). step_upto p z) e)
      (λ from end. subst (λ z. StepSees history lane from p end z) (sym e) tt)
  made_shape p j step (v ∷ vs) e =
      half p (ap (λ (z : List SendEvent). step_upto p z) e)
      (λ from end le seen. subst (λ z. StepSees history lane from p end z) (sym e) (le, seen))
      (λ from to. ap (λ (z : List SendEvent). step_seen from p z) e
      ∙ sym (ap (λ (z : List SendEvent). step_seen to p z) e))

  pub shape : (y : SessionEvent) → Shape y
  shape (Made p j step) = made_shape p j step (sending_event lane (Made p j step)) refl
  shape (Looked n x.At_sending) = half n refl (λ from e le seen. (le, seen)) (λ from to. refl)
  shape (Looked n (x.Finds k m piece)) = silent refl (λ from e. tt)
  shape (Looked n x.No_batch) = silent refl (λ from e. tt)
  shape (Looked n x.Elsewhere) = silent refl (λ from e. tt)
  shape any0 = silent refl (λ from e. tt)

  -- ---- an Abandon

  pub own : (p k : ℕ) → sending_event lane (Made p lane (h.Abandon k)) ≡ s.Made s.Abandon ∷ []
  own p k =
      ap (λ (b : Bool). if b then (s.Made s.Abandon ∷ []) else []) (eq-eqb lane lane refl)

  pub none_received : (p k : ℕ) → receiving_event lane (Made p lane (h.Abandon k)) ≡ []
  none_received p k = nothing (lane == lane)
    where
      nothing : (b : Bool) → ◌≡◌ {A = List RecvEvent} (if b then [] else []) []
      nothing true = refl
      nothing false = refl

  -- ---- each stands at its place

  abbrev Leads : (y : SessionEvent) (from : ℕ) (e : SendEnd) → Option ℕ → List SessionEvent → Type 0
  Leads y from e found ws =
      PlacesAbandons history lane (seen_after lane from y) (send_all (given_up e found) (sending_event lane y)) ws
      → PlacesAbandons history lane from e (abandon_at lane e found ++ y ∷ ws)

  behind_abandon : (y : SessionEvent) (from p : ℕ) (e : SendEnd) (ws : List SessionEvent)
      → from ≤ p → IsSeen history lane from p e
      → PlacesAbandons history lane (p + 1) (s.made e s.Abandon) (y ∷ ws)
      → PlacesAbandons history lane from e (Made p lane (h.Abandon (last_of e.state)) ∷ y ∷ ws)
  behind_abandon y from p e ws le seen rest =
      subst (λ z. StepSees history lane from p e z
      × PlacesAbandons history lane (step_seen from p z) (send_all e z) (y ∷ ws))
      (sym (own p (last_of e.state))) ((le, seen), rest)

  found_leads : (y : SessionEvent) (from upto : ℕ) (e : SendEnd) (found : Option ℕ) (ws : List SessionEvent)
      → ((from : ℕ) (e : SendEnd) → from ≤ upto → IsSeen history lane from upto e → Sees history lane from e y)
      → ((from to : ℕ) → seen_after lane from y ≡ seen_after lane to y) → from ≤ upto
      → Placed history lane from upto e found → Leads y from e found ws
  found_leads y from upto e found ws sees same le (kept seen) rest = (sees from e le seen, rest)
  found_leads y from upto e found ws sees same le (placed p i a b is none) rest =
      behind_abandon y from p e ws a (λ j. none) (
        sees (p + 1) (s.made e s.Abandon) (omega (arith, b)) (λ j. absurd (never j)),
        subst (λ z. PlacesAbandons history lane z (send_all (s.made e s.Abandon) (sending_event lane y)) ws)
            (same from (p + 1)) rest,
      )

  leads : (y : SessionEvent) (from : ℕ) (e : SendEnd) (ws : List SessionEvent) → Shape y
      → RisesBehind from (has_before lane y)
      → Leads y from e (abandoned_upto history lane from e (has_before lane y)) ws
  leads y from e ws (silent n sees) le =
      subst (λ z. Leads y from e (abandoned_upto history lane from e z) ws) (sym n) (λ rest. (sees from e, rest))
  leads y from e ws (half upto n sees same) le =
      subst (λ z. Leads y from e (abandoned_upto history lane from e z) ws) (sym n)
      (found_leads y from upto e (abandoned_upto history lane from e (Some upto)) ws sees same
      (subst (λ z. RisesBehind from z) n le)
      (placed_upto history lane from upto e (subst (λ z. RisesBehind from z) n le)))

  pub places : (ys : List SessionEvent) (from : ℕ) (e : SendEnd) → Rises lane from ys
      → PlacesAbandons history lane from e (with_abandons history lane from e ys)
  places [] from e r = tt
  places (y ∷ ys) from e r =
      leads y from e _ (shape y) r.0
      (places ys (seen_after lane from y)
      (send_all (given_up e (abandoned_upto history lane from e (has_before lane y))) (sending_event lane y)) r.1)

  -- ---- what stays so

  stand_before : (from upto : ℕ) (e : SendEnd) (found : Option ℕ) (ys : List SessionEvent)
      → Placed history lane from upto e found → StepsStand history ys
      → StepsStand history (abandon_at lane e found ++ ys)
  stand_before from upto e found ys (kept seen) k = k
  stand_before from upto e found ys (placed p i a b is none) k = (is, k)

  -- the list from an event on stands where the event does, and what follows
  one_stands : (y : SessionEvent) (ys ws : List SessionEvent) → StepsStand history (y ∷ ys)
      → (StepsStand history ys → StepsStand history ws) → StepsStand history (y ∷ ws)
  one_stands (Made p j step) ys ws k rest = (k.0, rest k.1)
  one_stands (Looked n look) ys ws k rest = (k.0, rest k.1)
  one_stands any0 ys ws k rest = rest k

  stand_here : (y : SessionEvent) (from : ℕ) (e : SendEnd) (ws : List SessionEvent) → Shape y
      → RisesBehind from (has_before lane y) → StepsStand history (y ∷ ws)
      → StepsStand history (abandon_at lane e (abandoned_upto history lane from e (has_before lane y)) ++ y ∷ ws)
  stand_here y from e ws (silent n sees) le k =
      subst (λ z. StepsStand history (abandon_at lane e (abandoned_upto history lane from e z) ++ y ∷ ws)) (sym n) k
  stand_here y from e ws (half upto n sees same) le k =
      subst (λ z. StepsStand history (abandon_at lane e (abandoned_upto history lane from e z) ++ y ∷ ws)) (sym n)
      (stand_before from upto e (abandoned_upto history lane from e (Some upto)) (y ∷ ws)
      (placed_upto history lane from upto e (subst (λ z. RisesBehind from z) n le)) k)

  pub stand : (ys : List SessionEvent) (from : ℕ) (e : SendEnd) → Rises lane from ys → StepsStand history ys
      → StepsStand history (with_abandons history lane from e ys)
  stand [] from e r k = tt
  stand (y ∷ ys) from e r k =
      stand_here y from e _ (shape y) r.0
      (one_stands y ys _ k (λ rest. stand ys (seen_after lane from y)
      (send_all (given_up e (abandoned_upto history lane from e (has_before lane y))) (sending_event lane y)) r.1 rest))

  -- an Abandon changes neither the turn nor who has it
  made_turns : (t : Turn) (p : ℕ) (step : SeenStep) (ys : List SessionEvent) → KeepsTurn t ys
      → KeepsTurn t (Made p lane step ∷ ys)
  made_turns x.Before_accept p step ys k = (tt, k)
  made_turns any0 p step ys k = (tt, k)

  turns_before : (t : Turn) (e : SendEnd) (found : Option ℕ) (ys : List SessionEvent) → KeepsTurn t ys
      → KeepsTurn t (abandon_at lane e found ++ ys)
  turns_before t e None ys k = k
  turns_before t e (Some p) ys k = made_turns t p (h.Abandon (last_of e.state)) ys k

  pub turns : (ys : List SessionEvent) (from : ℕ) (e : SendEnd) (t : Turn) → KeepsTurn t ys
      → KeepsTurn t (with_abandons history lane from e ys)
  turns [] from e t k = tt
  turns (y ∷ ys) from e t k =
      turns_before t e (abandoned_upto history lane from e (has_before lane y)) _ (
        k.0,
        turns ys (seen_after lane from y)
            (send_all (given_up e (abandoned_upto history lane from e (has_before lane y))) (sending_event lane y))
            (turn_after t y) k.1,
      )

  -- what follows a refused unit is no step and no look
  ends_still : (ys : List SessionEvent) (from : ℕ) (e : SendEnd) → EndsSo ys
      → EndsSo (with_abandons history lane from e ys)
  ends_still [] from e k = tt
  ends_still (Put (unit.Abort reason) ∷ []) from e k = tt
  ends_still _ from e k = absurd k

  refusals_before : (e : SendEnd) (found : Option ℕ) (ys : List SessionEvent) → RefusesLast ys
      → RefusesLast (abandon_at lane e found ++ ys)
  refusals_before e None ys k = k
  refusals_before e (Some p) ys k = k

  pub refusals : (ys : List SessionEvent) (from : ℕ) (e : SendEnd) → RefusesLast ys
      → RefusesLast (with_abandons history lane from e ys)
  refusals [] from e k = tt
  refusals (Refused u ∷ ys) from e k = ends_still ys from e k
  refusals (Got u ∷ ys) from e k = refusals ys from (send_all e (sending_event lane (Got u))) k
  refusals (Put u ∷ ys) from e k = refusals ys from (send_all e (sending_event lane (Put u))) k
  refusals (Made p j step ∷ ys) from e k =
      let y : SessionEvent = Made p j step in
      let found : Option ℕ = abandoned_upto history lane from e (has_before lane y) in
      refusals_before e found _ (refusals ys (seen_after lane from y)
      (send_all (given_up e found) (sending_event lane y)) k)
  refusals (Looked n look ∷ ys) from e k =
      let y : SessionEvent = Looked n look in
      let found : Option ℕ = abandoned_upto history lane from e (has_before lane y) in
      refusals_before e found _ (refusals ys (seen_after lane from y)
      (send_all (given_up e found) (sending_event lane y)) k)

  -- nothing of the receiving half
  received_before : (e : SendEnd) (found : Option ℕ) (ys : List SessionEvent)
      → receiving_events lane (abandon_at lane e found ++ ys) ≡ receiving_events lane ys
  received_before e None ys = refl
  received_before e (Some p) ys =
      ap (λ (z : List RecvEvent). z ++ receiving_events lane ys) (none_received p (last_of e.state))

  pub received : (ys : List SessionEvent) (from : ℕ) (e : SendEnd)
      → receiving_events lane (with_abandons history lane from e ys) ≡ receiving_events lane ys
  received [] from e = refl
  received (y ∷ ys) from e =
      let found : Option ℕ = abandoned_upto history lane from e (has_before lane y) in
      let f : SendEnd = send_all (given_up e found) (sending_event lane y) in
      received_before e found (y ∷ with_abandons history lane (seen_after lane from y) f ys)
      ∙ ap (λ (z : List RecvEvent). receiving_event lane y ++ z) (received ys (seen_after lane from y) f)
