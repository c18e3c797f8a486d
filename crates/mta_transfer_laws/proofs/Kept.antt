-- An EndAck that a session put has its Complete step in the history, or in what a snapshot stands for.
use Rattle.std.proofs.Common.{◌≡◌, ◌⊎◌, ◌≤◌, ℕ, ◌+◌, zero, suc, ◌==◌, Bool, true, false, if◌then◌else◌, Option, Some}
use Rattle.std.proofs.Common.{None}
use Rattle.std.proofs.Common.{slice_get, unwrap_or, List, [], ◌∷◌, ◌++◌, take, refl, sym, ◌∙◌, ap, subst, arith, inl}
use Rattle.std.proofs.Common.{inr}
use Rattle.std.proofs.lemmas.Bool.{eqb-true}
use Rattle.mta_lane_recv.specs.declared.state.Last.{Last}
use Rattle.mta_lane_recv.specs.declared.state.Last.TheVariants as last
use Rattle.mta_lane_recv.specs.Half.{is_done}
use Rattle.mta_transfer_rules.specs.Units.{LaneUnit}
use Rattle.mta_transfer_rules.specs.Receiving as r
use Rattle.mta_transfer_rules.specs.Receiving.{RecvEnd, RecvEvent}
use Rattle.mta_transfer_rules.specs.Lanes.{Halves, SeenStep, Seen, On, Elsewhere, Begins, halves_after, of_lane}
use Rattle.mta_transfer_rules.specs.Lanes.{of_lane_all, halves_run, lane_at_first, lane_in}
use Rattle.mta_transfer_rules.specs.Lanes as h
use Rattle.mta_transfer_laws.specs.Receivings.{end_on_link}
use Rattle.mta_transfer_laws.specs.Sessions.{SessionList, SessionEvent, receiving_event, receiving_events}
use Rattle.mta_transfer_laws.specs.Sessions.{receiving_step_of, took_of, answers_of, found_by, transfer_unit}
use Rattle.mta_transfer_laws.specs.Sessions.{answer_unit, StepsStand}
use Rattle.mta_transfer_laws.specs.Sessions as x
use Rattle.mta_units.specs.declared.unit.Unit.TheVariants as unit
use Rattle.mta_transfer_laws.specs.Acknowledged.{HasPut, IsCompleteIn, IsCompleted, EndAcksAreKept}
use Rattle.mta_transfer_laws.proofs.Histories.{first-take}
use Rattle.mta_transfer_laws.proofs.Receiver.{KeepsHalf, taken, take-keeps, put-keeps}

-- In the history -----------------------------------------------------------------------------------------------

done-is : (x : Last) (k : ℕ) → is_done x k ≡ true → x ≡ last.Done k
done-is (last.Done j) k e = ap last.Done (sym (eqb-true k j e))
done-is any0 k e = absurd (let c : false ≡ true = e in cc)

shift : (x : Seen) (xs : List Seen) (lane k : ℕ) → IsCompleteIn xs lane k → IsCompleteIn (x ∷ xs) lane k
shift x xs lane k c = (suc c.0, c.1, c.2, c.3, c.4)

module _ (lane k : ℕ) where
  by-step : (l : Halves) (step : SeenStep) (xs : List Seen) → is_done (halves_after l step).last k ≡ true
      → (is_done l.last k ≡ true) ⊎ IsCompleteIn (On lane step ∷ xs) lane k
  by-step l (h.Complete g m n piece) xs d =
      inr (let e : k ≡ m = eqb-true k m d in
      (zero, g, n, piece, ap (λ (z : ℕ). Some (On lane (h.Complete g z n piece))) (sym e)))
  by-step l (h.Secure g m n piece) xs d = absurd (let c : false ≡ true = d in cc)
  by-step l (h.Drop g m) xs d = absurd (let c : false ≡ true = d in cc)
  by-step l _ xs d = inl d

  by-lane : (b : Bool) (j : ℕ) (step : SeenStep) (xs : List Seen) (l : Halves) → (j == lane) ≡ b
      → ((m : Halves) → is_done (halves_run m (of_lane_all lane xs)).last k ≡ true → (is_done m.last k ≡ true)
      ⊎ IsCompleteIn xs lane k)
      → is_done (halves_run l ((if b then step ∷ [] else []) ++ of_lane_all lane xs)).last k ≡ true
      → (is_done l.last k ≡ true) ⊎ IsCompleteIn (On j step ∷ xs) lane k
  by-lane true j step xs l t rest g =
      elim (rest (halves_after l step) g) [
        | inl e ↦ subst (λ (z : ℕ). (is_done l.last k ≡ true) ⊎ IsCompleteIn (On z step ∷ xs) lane k)
            (sym (eqb-true j lane t)) (by-step l step xs e)
        | inr c ↦ inr (shift (On j step) xs lane k c)
      ]
  by-lane false j step xs l t rest g = elim (rest l g) [ inl e ↦ inl e | inr c ↦ inr (shift (On j step) xs lane k c) ]

  done-in : (steps : List Seen) (l : Halves) → is_done (halves_run l (of_lane_all lane steps)).last k ≡ true
      → (is_done l.last k ≡ true) ⊎ IsCompleteIn steps lane k
  done-in [] l d = inl d
  done-in (Elsewhere ∷ xs) l d = elim (done-in xs l d) [ inl e ↦ inl e | inr c ↦ inr (shift Elsewhere xs lane k c) ]
  done-in (Begins count lanes ∷ xs) l d =
      elim (done-in xs l d) [ inl e ↦ inl e | inr c ↦ inr (shift (Begins count lanes) xs lane k c) ]
  done-in (On j step ∷ xs) l d = by-lane (j == lane) j step xs l refl (λ m g. done-in xs m g) d

  in-history : (steps : List Seen) → is_done (lane_in lane steps).last k ≡ true → IsCompleted steps lane k
  in-history steps d = elim (done-in steps (lane_at_first lane steps) d) [
    | inl e ↦ inr (done-is (lane_at_first lane steps).last k e)
    | inr c ↦ inl c
  ]

-- of the front of a history
of-front : (n : ℕ) (xs : List Seen) (lane k : ℕ) → IsCompleteIn (take n xs) lane k → IsCompleteIn xs lane k
of-front n xs lane k c = (c.0, c.1, c.2, c.3, front n xs c.0 _ c.4)
  where
    front : (n : ℕ) (xs : List Seen) (p : ℕ) (y : Seen) → slice_get (take n xs) p ≡ Some y → slice_get xs p ≡ Some y
    front zero xs p y e = absurd (let c : None ≡ Some y = e in cc)
    front (suc n) [] p y e = e
    front (suc n) (x ∷ xs) zero y e = e
    front (suc n) (x ∷ xs) (suc p) y e = front n xs p y e

completed-front : (n : ℕ) (xs : List Seen) (lane k : ℕ) → 1 ≤ n → IsCompleted (take n xs) lane k → IsCompleted xs lane k
completed-front n xs lane k le (inl c) = inl (of-front n xs lane k c)
completed-front n xs lane k le (inr d) = inr (ap (λ (l : Halves). l.last) (sym (first-take xs lane n le)) ∙ d)

-- Along a session list -------------------------------------------------------------------------------------------

module _ (history : List Seen) (lane k : ℕ) where
  abbrev Known : RecvEnd → Type 0
  Known e = is_done e.last k ≡ true → IsCompleted history lane k

  abbrev CompletesIn : List RecvEvent → Type 0
  CompletesIn [] = Unit {0}
  CompletesIn (r.Made (r.Complete j n piece) ∷ zs) = IsCompleteIn history lane j × CompletesIn zs
  CompletesIn (z ∷ zs) = CompletesIn zs

  kept : (e f : RecvEnd) → KeepsHalf e f → Known e → Known f
  kept e f g w d = w (subst (λ (z : Last). is_done z k ≡ true) g.1 d)

  one : (z : RecvEvent) (zs : List RecvEvent) (e : RecvEnd) → r.RecvAllows e z → CompletesIn (z ∷ zs) → Known e
      → Known (r.recv_after e z)
  one (r.Took y) zs e a c w =
      let t : (f : RecvEnd) × (r.take e y ≡ Some f) = taken e (r.take e y) a in
      kept e (r.recv_after e (r.Took y))
      (subst (λ (z : RecvEnd). KeepsHalf e z) (sym (ap (λ (z : Option RecvEnd). unwrap_or z e) t.1))
      (take-keeps e.stage e t.0 y refl t.1)) w
  one (r.Put y) zs e a c w = kept e (r.put e y) (put-keeps e y) w
  one (r.Made (r.Secure j n piece)) zs e a c w = λ d. absurd (let b : false ≡ true = d in cc)
  one (r.Made (r.Complete j n piece)) zs e a c w =
      λ d. subst (λ (z : ℕ). IsCompleted history lane z) (sym (eqb-true k j d)) (inl c.0)
  one (r.Made (r.Drop j)) zs e a c w = λ d. absurd (let b : false ≡ true = d in cc)
  one any0 zs e a c w = w

  less : (z : RecvEvent) (zs : List RecvEvent) → CompletesIn (z ∷ zs) → CompletesIn zs
  less (r.Made (r.Complete j n piece)) zs c = c.1
  less (r.Made (r.Secure j n piece)) zs c = c
  less (r.Made (r.Drop j)) zs c = c
  less any0 zs c = c

  along : (zs ys : List RecvEvent) (e f : RecvEnd) → r.IsReceivingEnd e (zs ++ ys) f → CompletesIn zs → Known e
      → Known (x.recv_all e zs) × r.IsReceivingEnd (x.recv_all e zs) ys f
  along [] ys e f a c w = (w, a)
  along (z ∷ zs) ys e f a c w = along zs ys (r.recv_after e z) f a.1 (less z zs c) (one z zs e a.0 c w)

  none-took : (us : List LaneUnit) → CompletesIn (took_of us)
  none-took [] = tt
  none-took (y ∷ us) = none-took us

  none-put : (us : List LaneUnit) → CompletesIn (answers_of us)
  none-put [] = tt
  none-put (y ∷ us) = none-put us

  by-made : (p : ℕ) (step : SeenStep) → slice_get history p ≡ Some (On lane step) → CompletesIn (receiving_step_of step)
  by-made p (h.Complete g m n piece) e = ((p, g, n, piece, e), tt)
  by-made p (h.Secure g m n piece) e = tt
  by-made p (h.Drop g m) e = tt
  by-made p _ e = tt

  made-in : (b : Bool) (p j : ℕ) (step : SeenStep) → (j == lane) ≡ b → slice_get history p ≡ Some (On j step)
      → CompletesIn (if b then receiving_step_of step else [])
  made-in true p j step t e = by-made p step
      (subst (λ (z : ℕ). slice_get history p ≡ Some (On z step)) (eqb-true j lane t) e)
  made-in false p j step t e = tt

  completes : (y : SessionEvent) (es : List SessionEvent) → StepsStand history (y ∷ es)
      → CompletesIn (receiving_event lane y) × StepsStand history es
  completes (x.Got u) es g = (none-took (transfer_unit u), g)
  completes (x.Refused u) es g = (tt, g)
  completes (x.Put u) es g = (none-put (answer_unit u), g)
  completes (x.Made p j step) es g = (made-in (j == lane) p j step refl g.0, g.1)
  completes (x.Looked n (x.Finds a b c)) es g = (tt, g.1)
  completes (x.Looked n x.At_sending) es g = (tt, g.1)
  completes (x.Looked n x.No_batch) es g = (tt, g.1)
  completes (x.Looked n x.Elsewhere) es g = (tt, g.1)

  walk : (es : List SessionEvent) (e f : RecvEnd) → r.IsReceivingEnd e (receiving_events lane es) f
      → StepsStand history es → Known e → HasPut (unit.EndAck k) es → IsCompleted history lane k
  walk [] e f a g w p = absurd p
  walk (y ∷ es) e f a g w p =
      let c : CompletesIn (receiving_event lane y) × StepsStand history es = completes y es g in
      let m : Known (x.recv_all e (receiving_event lane y))
      × r.IsReceivingEnd (x.recv_all e (receiving_event lane y)) (receiving_events lane es) f =
      along (receiving_event lane y) (receiving_events lane es) e f a c.0 w in
      elim p [
        | inl i ↦
            (let b : r.IsReceivingEnd e (receiving_event lane (x.Put (unit.EndAck k)) ++ receiving_events lane es) f =
            subst (λ (z : SessionEvent). r.IsReceivingEnd e (receiving_event lane z ++ receiving_events lane es) f) i
            a in
            w b.0.3)
        | inr q ↦ walk es (x.recv_all e (receiving_event lane y)) f m.1 c.1 m.0 q
      ]

pub end_acks-kept : EndAcksAreKept
end_acks-kept spells history lane size window initiator l g k p =
    walk history lane k l.events (end_on_link (lane_in lane (take (l.at + 1) history))) g.receiving.last_end
    g.receiving.allowed g.stands
    (λ d. completed-front (l.at + 1) history lane k (omega arith) (in-history lane k (take (l.at + 1) history) d)) p
