-- Good lists of one station that own the steps of a sending half have them in the history's order.
use Rattle.std.proofs.Common.{◌≡◌, ◌⊎◌, ◌<◌, ◌≤◌, ℕ, ◌+◌, ◌==◌, nat_lt, Bool, true, false, not, if◌then◌else◌, Option}
use Rattle.std.proofs.Common.{Some, slice_get, List, [], ◌∷◌, ◌++◌, length, take, refl, sym, ◌∙◌, ap, subst, arith, inl}
use Rattle.std.proofs.Common.{inr, append_assoc, append-nil}
use Rattle.std.proofs.Math.Seq.{take-append_seam}
use Rattle.std.proofs.lemmas.Bool.{ltb-true, ltb-false, eqb-true}
use Rattle.mta_lane_send.specs.declared.state.SendState.{SendState}
use Rattle.mta_lane_send.specs.declared.state.SendState.TheVariants as state
use Rattle.mta_lane_send.specs.Half.{last_of, is_sending}
use Rattle.mta_transfer_rules.specs.Units.{LaneUnit}
use Rattle.mta_transfer_rules.specs.Sending as s
use Rattle.mta_transfer_rules.specs.Sending.{SendEnd, SendEvent, SendStep}
use Rattle.mta_transfer_rules.specs.Lanes.{Halves, SeenStep, Seen, On, Elsewhere, Begins, Allows, AreAllowed}
use Rattle.mta_transfer_rules.specs.Lanes.{halves_after, of_lane, of_lane_all, lane_in}
use Rattle.mta_transfer_laws.specs.History.{half_steps, lane_upto}
use Rattle.mta_transfer_rules.specs.Lanes as h
use Rattle.mta_transfer_laws.specs.Sendings.{HalfStep, Binds, Makes, sending_step, end_on_link}
use Rattle.mta_transfer_laws.specs.Sessions.{SessionList, SessionEvent, IsGoodSession, StepsStand, PlacesAbandons}
use Rattle.mta_transfer_laws.specs.Sessions.{IsKept, IsSeen, StepSees, step_seen, send_all, sending_event}
use Rattle.mta_transfer_laws.specs.Sessions.{sending_events, sending_step_of, sending_list}
use Rattle.mta_transfer_laws.specs.Sessions as x
use Rattle.mta_transfer_laws.specs.Covering.{Placed, placed_at, placed_events, placed_lists, step_at, step_here}
use Rattle.mta_transfer_laws.specs.Covering.{EachStands, EachBinds, Rises, HasPosition, OwningKeepsOrder}
use Rattle.mta_transfer_laws.specs.Run.{EachGood}
use Rattle.mta_transfer_laws.proofs.Histories.{upto-more, upto-take, length-more, split, behind-front}
use Rattle.mta_transfer_laws.proofs.Schedule.{shape, silent, After, Leads, leads}
use Rattle.mta_transfer_laws.proofs.Cover.{at-end, NextBinds, Merged, Next, Free, not-there, here, nothing-behind}
use Rattle.mta_transfer_laws.proofs.Cover.{heads, in-order}

lt-or-le : (p b : ℕ) → (p < b) ⊎ (b ≤ p)
lt-or-le p b = by_test (nat_lt p b) refl
  where
    by_test : (c : Bool) → nat_lt p b ≡ c → (p < b) ⊎ (b ≤ p)
    by_test true e = inl (ltb-true p b e)
    by_test false e = inr (ltb-false p b e)

-- units leave the half as it is
units-same : (us : List LaneUnit) (e : SendEnd) → ((send_all e (x.gots_of us)).state ≡ e.state)
    × ((send_all e (x.puts_of us)).state ≡ e.state)
units-same [] e = (refl, refl)
units-same (y ∷ us) e = ((units-same us (s.got e y)).0, (units-same us (s.put e y)).1)

along : (zs ys : List SendEvent) (e f : SendEnd) → s.IsSendingEnd e (zs ++ ys) f → s.IsSendingEnd (send_all e zs) ys f
along [] ys e f a = a
along (z ∷ zs) ys e f a = along zs ys (s.send_after e z) f a.1

-- a step of a lane is one event of the sending half, or none
one-step : (step : SeenStep) → (sending_step_of step ≡ []) ⊎ ((st : SendStep) × (sending_step_of step ≡ s.Made st ∷ []))
one-step (h.Start g k o) = inr (s.Start o, refl)
one-step (h.Confirm g k n) = inr (s.Confirm n, refl)
one-step (h.To_end g k) = inr (s.To_end, refl)
one-step (h.Sent g k) = inr (s.Sent, refl)
one-step (h.Refused g k) = inr (s.Refused, refl)
one-step (h.Denied g k) = inr (s.Denied, refl)
one-step (h.Dropped g k) = inr (s.Dropped, refl)
one-step (h.Abandon k) = inr (s.Abandon, refl)
one-step _ = inl refl

one-event : (lane p j : ℕ) (step : SeenStep) → (sending_event lane (x.Made p j step) ≡ [])
    ⊎ ((st : SendStep) × (sending_event lane (x.Made p j step) ≡ s.Made st ∷ []))
one-event lane p j step = by_lane (j == lane)
  where
    by_lane : (b : Bool) → ((if b then sending_step_of step else []) ≡ [])
        ⊎ ((st : SendStep) × ((if b then sending_step_of step else []) ≡ s.Made st ∷ []))
    by_lane true = one-step step
    by_lane false = inl refl

module _ (history : List Seen) (lane : ℕ) where
  -- the next step of a list, and what is left behind it
  record Ahead (es : List SessionEvent) (from : ℕ) (e f : SendEnd) (y : Placed) (ys : List Placed) : Type 0 where
    step : SendStep
    is_step : y.step ≡ Makes step
    here : SendEnd
    state : here.state ≡ e.state
    kept : is_sending e.state (last_of e.state) ≡ true → IsKept history lane (last_of e.state) from y.position
    behind : List SessionEvent
    is_behind : ys ≡ placed_events lane behind
    places : PlacesAbandons history lane (y.position + 1) (s.made here step) behind
    allowed : s.IsSendingEnd (s.made here step) (sending_events lane behind) f
    stand : StepsStand history behind

  two-kept : (k a b c : ℕ) → IsKept history lane k a b → IsKept history lane k b c → IsKept history lane k a c
  two-kept k a b c m n p le lt e = elim (lt-or-le p b) [ inl g ↦ m p le g e | inr g ↦ n p g lt e ]

  -- the same, where events without a step stand before
  carry : (es es' : List SessionEvent) (from : ℕ) (e d f : SendEnd) (y : Placed) (ys : List Placed) → d.state ≡ e.state
      → Ahead es from d f y ys → Ahead es' from e f y ys
  carry es es' from e d f y ys sa a = record {
    step = a.step;
    is_step = a.is_step;
    here = a.here;
    state = a.state ∙ sa;
    kept = subst (λ (z : SendState). is_sending z (last_of z) ≡ true → IsKept history lane (last_of z) from y.position)
        sa a.kept;
    behind = a.behind;
    is_behind = a.is_behind;
    places = a.places;
    allowed = a.allowed;
    stand = a.stand;
  }

  placed-one : (p j : ℕ) (step : SeenStep) (es : List SessionEvent) (zs : List SendEvent)
      → sending_event lane (x.Made p j step) ≡ zs
      → placed_events lane (x.Made p j step ∷ es) ≡ placed_at p zs ++ placed_events lane es
  placed-one p j step es zs e = ap (λ (z : List SendEvent). placed_at p z ++ placed_events lane es) e

  ahead : (es : List SessionEvent) (from : ℕ) (e f : SendEnd) (y : Placed) (ys : List Placed) → placed_events lane es
      ≡ y ∷ ys → PlacesAbandons history lane from e es
      → s.IsSendingEnd e (sending_events lane es) f → StepsStand history es → Ahead es from e f y ys
  ahead [] from e f y ys is pa al st = absurd (let c : [] ≡ y ∷ ys = is in cc)
  ahead (x.Got u ∷ es) from e f y ys is pa al st =
      carry es (x.Got u ∷ es) from e (send_all e (x.gots_of (x.answer_unit u))) f y ys
      (units-same (x.answer_unit u) e).0
      (ahead es from (send_all e (x.gots_of (x.answer_unit u))) f y ys is pa.1
      (along (x.gots_of (x.answer_unit u)) (sending_events lane es) e f al) st)
  ahead (x.Put u ∷ es) from e f y ys is pa al st =
      carry es (x.Put u ∷ es) from e (send_all e (x.puts_of (x.transfer_unit u))) f y ys
      (units-same (x.transfer_unit u) e).1
      (ahead es from (send_all e (x.puts_of (x.transfer_unit u))) f y ys is pa.1
      (along (x.puts_of (x.transfer_unit u)) (sending_events lane es) e f al) st)
  ahead (x.Refused u ∷ es) from e f y ys is pa al st =
      carry es (x.Refused u ∷ es) from e e f y ys refl (ahead es from e f y ys is pa.1 al st)
  ahead (x.Looked n (x.Finds a b c) ∷ es) from e f y ys is pa al st =
      carry es (x.Looked n (x.Finds a b c) ∷ es) from e e f y ys refl (ahead es from e f y ys is pa.1 al st.1)
  ahead (x.Looked n x.No_batch ∷ es) from e f y ys is pa al st =
      carry es (x.Looked n x.No_batch ∷ es) from e e f y ys refl (ahead es from e f y ys is pa.1 al st.1)
  ahead (x.Looked n x.Elsewhere ∷ es) from e f y ys is pa al st =
      carry es (x.Looked n x.Elsewhere ∷ es) from e e f y ys refl (ahead es from e f y ys is pa.1 al st.1)
  ahead (x.Looked n x.At_sending ∷ es) from e f y ys is pa al st =
      let a : Ahead es n e f y ys = ahead es n e f y ys is pa.1 al st.1 in
      record {
        step = a.step;
        is_step = a.is_step;
        here = a.here;
        state = a.state;
        kept = λ i. two-kept (last_of e.state) from n y.position (pa.0.1 i) (a.kept i);
        behind = a.behind;
        is_behind = a.is_behind;
        places = a.places;
        allowed = a.allowed;
        stand = a.stand;
      }
  ahead (x.Made p j step ∷ es) from e f y ys is pa al st = by_event (one-event lane p j step)
      (λ em. ahead es from e f y ys
      (sym (placed-one p j step es [] em) ∙ is)
      (subst (λ (z : List SendEvent). PlacesAbandons history lane (step_seen from p z) (send_all e z) es) em pa.1)
      (subst (λ (z : List SendEvent). s.IsSendingEnd e (z ++ sending_events lane es) f) em al) st.1)
    where
      by_event : (sending_event lane (x.Made p j step) ≡ [])
          ⊎ ((t : SendStep) × (sending_event lane (x.Made p j step) ≡ s.Made t ∷ []))
          → (sending_event lane (x.Made p j step) ≡ [] → Ahead es from e f y ys)
          → Ahead (x.Made p j step ∷ es) from e f y ys
      by_event (inl em) rest = carry es (x.Made p j step ∷ es) from e e f y ys refl (rest em)
      by_event (inr g) rest =
          let t : SendStep = g.0 in
          let i : (record { position = p; step = Makes t } ≡ y)
          × (placed_events lane es ≡ ys) = heads _ y _ ys (sym (placed-one p j step es (s.Made t ∷ []) g.1) ∙ is) in
          let po : p ≡ y.position = ap (λ (z : Placed). z.position) i.0 in
          let se : (from ≤ p) × IsSeen history lane from p e =
          subst (λ (z : List SendEvent). StepSees history lane from p e z) g.1 pa.0 in
          record {
            step = t;
            is_step = sym (ap (λ (z : Placed). z.step) i.0);
            here = e;
            state = refl;
            kept = λ k. subst (λ (z : ℕ). IsKept history lane (last_of e.state) from z) po (se.1 k);
            behind = es;
            is_behind = sym i.1;
            places = subst (λ (z : ℕ). PlacesAbandons history lane (z + 1) (s.made e t) es) po
                (subst (λ (z : List SendEvent). PlacesAbandons history lane (step_seen from p z) (send_all e z) es) g.1
                pa.1);
            allowed = (subst (λ (z : List SendEvent). s.IsSendingEnd e (z ++ sending_events lane es) f) g.1 al).1;
            stand = st.1;
          }

-- Along the history ------------------------------------------------------------------------------------------------

gives-up : (n : ℕ) (step : SeenStep) → sending_step n step ≡ Makes s.Abandon ∷ [] → (k : ℕ) × (step ≡ h.Abandon k)
gives-up n (h.Abandon k) e = (k, refl)
gives-up n _ e = absurd cc

placed-cases : (xs : List Placed) → (xs ≡ []) ⊎ ((y : Placed) × (ys : List Placed) × (xs ≡ y ∷ ys))
placed-cases [] = inl refl
placed-cases (y ∷ ys) = inr (y, ys, refl)

sending-is : (st : SendState) (k : ℕ) → is_sending st k ≡ true → k ≡ last_of st
sending-is (state.Sending j c) k e = eqb-true k j e
sending-is any0 k e = absurd cc

module _ (spells : List ℕ → Bool) (history : List Seen) (lane size window : ℕ) (initiator : Bool) where
  -- the list that goes on is in step with the lane
  record Inside (n : ℕ) (l : Halves) (es : List SessionEvent) : Type 0 where
    e : SendEnd
    f : SendEnd
    from : ℕ
    places : PlacesAbandons history lane from e es
    within : from ≤ n
    state : e.state ≡ l.state
    allowed : s.IsSendingEnd e (sending_events lane es) f
    stand : StepsStand history es

  abbrev Goes : ℕ → Halves → List SessionEvent → Type 0
  Goes n l es = (placed_events lane es ≡ []) ⊎ Inside n l es

  abbrev Owned : ℕ → List Placed → Type 0
  Owned n xs = (p : ℕ) (y : HalfStep) → n ≤ p → step_at history lane p ≡ y ∷ [] → HasPosition p xs
      ⊎ (y ≡ Makes s.Abandon)

  owned-taken : (n : ℕ) (y : Placed) (ys : List Placed) → y.position ≡ n → Owned n (y ∷ ys) → Owned (n + 1) ys
  owned-taken n y ys en o p z le e =
      elim (o p z (omega (arith, le)) e)
      [ inl c ↦ elim c [ inl g ↦ absurd (omega (arith, g, en, le)) | inr i ↦ inl i ] | inr a ↦ inr a ]

  owned-later : (n : ℕ) (xs : List Placed) → Owned n xs → Owned (n + 1) xs
  owned-later n xs o p z le e = o p z (omega (arith, le)) e

  goes-later : (n : ℕ) (l m : Halves) (es : List SessionEvent) → m.state ≡ l.state → Goes n l es → Goes (n + 1) m es
  goes-later n l m es same (inl em) = inl em
  goes-later n l m es same (inr i) = inr
      (record {
        e = i.e;
        f = i.f;
        from = i.from;
        places = i.places;
        within =
            (let le : i.from ≤ n = i.within in omega (arith, le));
        state = i.state
            ∙ sym same;
        allowed = i.allowed;
        stand = i.stand;
      })

  -- what is left to do from a place of the history on
  abbrev Left : (n : ℕ) (l : Halves) (ys : List HalfStep) → Type 0
  Left n l ys = (es : List SessionEvent) (ls : List SessionList) (xs : List Placed) → xs ≡ placed_events lane es
      ++ placed_lists lane ls → Goes n l es
      → EachGood spells history lane size window initiator ls → EachStands history lane xs → Rises n xs → Owned n xs
      → Merged xs ys

  module _ (n : ℕ) (l m : Halves) (step : SeenStep) (y : HalfStep) (ys : List HalfStep)
      (possible : Allows spells l step) (leaves : m ≡ halves_after l step)
      (is : sending_step n step ≡ y ∷ []) (at : step_at history lane n ≡ y ∷ [])
      (there : slice_get history n ≡ Some (On lane step))
      (lane_there : lane_in lane (take (n + 1) history) ≡ m) (later : Left (n + 1) m ys) where
    lead : After l (halves_after l step) n y
    lead = leads spells l n y step possible is

    -- the step is an Abandon of no list
    free : (es : List SessionEvent) (ls : List SessionList) (xs : List Placed) → xs ≡ placed_events lane es
        ++ placed_lists lane ls → Goes n l es
        → EachGood spells history lane size window initiator ls → EachStands history lane xs → Rises (n + 1) xs
        → Owned n xs → y ≡ Makes s.Abandon → Merged xs (y ∷ ys)
    free es ls xs w g gd st ri ow ab = by_list (placed-cases (placed_events lane es)) g
      where
        binds-next : (ls : List SessionList) → NextBinds (placed_lists lane ls)
        binds-next [] = tt
        binds-next (k ∷ ks) = tt

        by_list : ((placed_events lane es ≡ [])
            ⊎ ((z : Placed) × (zs : List Placed) × (placed_events lane es ≡ z ∷ zs))) → Goes n l es → Merged xs (y ∷ ys)
        by_list (inl em) g =
            subst (λ (z : HalfStep). Merged xs (z ∷ ys)) (sym ab)
            (Free (subst (λ (z : List Placed). NextBinds z)
            (sym (w ∙ ap (λ (z : List Placed). z ++ placed_lists lane ls) em)) (binds-next ls))
            (later es ls xs w (inl em) gd st ri (owned-later n xs ow)))
        by_list (inr c) (inl em) = absurd (let b : [] ≡ c.0 ∷ c.1 = sym em ∙ c.2 in cc)
        by_list (inr c) (inr i) =
            let a : Ahead history lane es i.from i.e i.f c.0 c.1 =
            ahead history lane es i.from i.e i.f c.0 c.1 c.2 i.places i.allowed i.stand in
            let k : (k : ℕ) × (step ≡ h.Abandon k) = gives-up n step (is ∙ ap (λ (z : HalfStep). z ∷ []) ab) in
            let po : Allows spells l (h.Abandon k.0) = subst (λ (z : SeenStep). Allows spells l z) k.1 possible in
            let la : k.0 ≡ last_of i.e.state =
            sending-is i.e.state k.0 (subst (λ (z : SendState). is_sending z k.0 ≡ true) (sym i.state) po.1) in
            let sn : is_sending i.e.state (last_of i.e.state)
            ≡ true = subst (λ (z : ℕ). is_sending i.e.state z ≡ true) la
            (subst (λ (z : SendState). is_sending z k.0 ≡ true) (sym i.state) po.1) in
            let first : Rises (n + 1) (c.0 ∷ (c.1 ++ placed_lists lane ls)) =
            subst (λ (z : List Placed). Rises (n + 1) z)
            (w ∙ ap (λ (z : List Placed). z ++ placed_lists lane ls) c.2) ri in
            absurd (a.kept sn n i.within (let le : n + 1 ≤ c.0.position = first.0 in omega (arith, le))
            (there ∙ ap (λ (z : SeenStep). Some (On lane z)) k.1 ∙ ap (λ (z : ℕ). Some (On lane (h.Abandon z))) la))

    -- it is the next step of the lists
    taken : (es : List SessionEvent) (ls : List SessionList) (z : Placed) (zs : List Placed) → z ∷ zs
        ≡ placed_events lane es ++ placed_lists lane ls → Goes n l es
        → EachGood spells history lane size window initiator ls → EachStands history lane (z ∷ zs) → Rises n (z ∷ zs)
        → Owned n (z ∷ zs) → n ≡ z.position → y ≡ z.step → Merged (z ∷ zs) (y ∷ ys)
    taken es ls z zs w g gd st ri ow np yz =
        subst (λ (v : HalfStep). Merged (z ∷ zs) (v ∷ ys)) (sym yz)
        (Next z (by_list (placed-cases (placed_events lane es)) g ls gd w))
      where
        rise : Rises (n + 1) zs
        rise = subst (λ (v : ℕ). Rises (v + 1) zs) (sym np) ri.1

        by_lists : (ls : List SessionList) → EachGood spells history lane size window initiator ls → z ∷ zs
            ≡ placed_lists lane ls → Merged zs ys
        by_lists [] gd e = absurd (let b : z ∷ zs ≡ [] = e in cc)
        by_lists (k ∷ ks) gd e =
            let q : (z ≡ record { position = k.at; step = Binds k.at })
            × (zs ≡ placed_events lane k.events ++ placed_lists lane ks) = heads z _ zs _ e in
            let at_k : n ≡ k.at = np ∙ ap (λ (v : Placed). v.position) q.0 in
            later k.events ks zs q.1
            (inr (record {
              e = end_on_link (lane_in lane (take (k.at + 1) history)) size window (not initiator);
              f = gd.0.sending.last_end;
              from = k.at + 1;
              places = gd.0.placed;
              within = omega (arith, at_k);
              state = ap (λ (v : ℕ). (lane_in lane (take (v + 1) history)).state) (sym at_k)
                  ∙ ap (λ (v : Halves). v.state) lane_there;
              allowed = gd.0.sending.allowed;
              stand = gd.0.stands;
            })) gd.1 st.1 rise (owned-taken n z zs (sym np) ow)

        by_list : ((placed_events lane es ≡ [])
            ⊎ ((v : Placed) × (vs : List Placed) × (placed_events lane es ≡ v ∷ vs))) → Goes n l es
            → (ls : List SessionList)
            → EachGood spells history lane size window initiator ls → z ∷ zs ≡ placed_events lane es
            ++ placed_lists lane ls → Merged zs ys
        by_list (inl em) g ls gd w = by_lists ls gd (w ∙ ap (λ (v : List Placed). v ++ placed_lists lane ls) em)
        by_list (inr c) (inl em) ls gd w = absurd (let b : [] ≡ c.0 ∷ c.1 = sym em ∙ c.2 in cc)
        by_list (inr c) (inr i) ls gd w =
            let q : (z ≡ c.0) × (zs ≡ c.1 ++ placed_lists lane ls) =
            heads z c.0 zs _ (w ∙ ap (λ (v : List Placed). v ++ placed_lists lane ls) c.2) in
            let a : Ahead history lane es i.from i.e i.f c.0 c.1 =
            ahead history lane es i.from i.e i.f c.0 c.1 c.2 i.places i.allowed i.stand in
            let ld : Leads l (halves_after l step) a.step =
            subst (λ (v : HalfStep). After l (halves_after l step) n v)
            (yz ∙ ap (λ (v : Placed). v.step) q.0 ∙ a.is_step) lead in
            let pn : n ≡ c.0.position = np ∙ ap (λ (v : Placed). v.position) q.0 in
            later a.behind ls zs (q.1 ∙ ap (λ (v : List Placed). v ++ placed_lists lane ls) a.is_behind)
            (inr (record {
              e = s.made a.here a.step;
              f = i.f;
              from = c.0.position + 1;
              places = a.places;
              within = omega (arith, pn);
              state = ap (λ (v : SendState). s.state_after v a.step) (a.state ∙ i.state) ∙ sym ld.state
                  ∙ sym (ap (λ (v : Halves). v.state) leaves);
              allowed = a.allowed;
              stand = a.stand;
            })) gd st.1 rise (owned-taken n z zs (sym np) ow)

    both : Left n l (y ∷ ys)
    both es ls [] w g gd st ri ow = elim (ow n y (omega arith) at)
        [ inl b ↦ absurd b | inr ab ↦ free es ls [] w g gd st tt ow ab ]
    both es ls (z ∷ zs) w g gd st ri ow = by_place (lt-or-le n z.position)
      where
        by_place : (n < z.position) ⊎ (z.position ≤ n) → Merged (z ∷ zs) (y ∷ ys)
        by_place (inl lt) =
            let ri' : Rises (n + 1) (z ∷ zs) = (omega (arith, lt), ri.1) in
            elim (ow n y (omega arith) at) [
              | inl b ↦ absurd (not-there (n + 1) n (z ∷ zs) ri' (omega arith) b)
              | inr ab ↦ free es ls (z ∷ zs) w g
                  gd st ri' ow ab
            ]
        by_place (inr le) =
            let np : n ≡ z.position = (let ge : n ≤ z.position = ri.0 in omega (arith, le, ge)) in
            let st' : step_at history lane n ≡ z.step ∷ [] = ap (λ (v : ℕ). step_at history lane v) np ∙ st.0 in
            taken es ls z zs w g gd st ri ow np (let b : y ∷ [] ≡ z.step ∷ [] = sym at ∙ st' in cc)

  rises-skip : (n : ℕ) (xs : List Placed) → step_at history lane n ≡ [] → EachStands history lane xs → Rises n xs
      → Rises (n + 1) xs
  rises-skip n [] e st ri = tt
  rises-skip n (z ∷ zs) e st ri = (by_place (lt-or-le n z.position), ri.1)
    where
      by_place : (n < z.position) ⊎ (z.position ≤ n) → n + 1 ≤ z.position
      by_place (inl lt) = omega (arith, lt)
      by_place (inr le) =
          let np : n ≡ z.position = (let ge : n ≤ z.position = ri.0 in omega (arith, le, ge)) in
          absurd (let b : [] ≡ z.step ∷ [] = sym e ∙ ap (λ (v : ℕ). step_at history lane v) np ∙ st.0 in cc)

  skip : (n : ℕ) (l m : Halves) (ys : List HalfStep) → m.state ≡ l.state → step_at history lane n ≡ []
      → Left (n + 1) m ys → Left n l ys
  skip n l m ys same e later es ls xs w g gd st ri ow =
      later es ls xs w (goes-later n l m es same g) gd st (rises-skip n xs e st ri) (owned-later n xs ow)

  -- the lane and its step at a place of the history
  module _ (done rs : List Seen) (j : ℕ) (step : SeenStep) (w : history ≡ done ++ On j step ∷ rs) where
    next_lane : (b : Bool) → (j == lane) ≡ b → lane_upto history lane (done ++ On j step ∷ [])
        ≡ (if b then halves_after (lane_upto history lane done) step else lane_upto history lane done)
    next_lane true e = upto-more history lane done (On j step)
        ∙ ap (λ (b : Bool). h.halves_run (lane_upto history lane done) (if b then step ∷ [] else [])) e
    next_lane false e = upto-more history lane done (On j step)
        ∙ ap (λ (b : Bool). h.halves_run (lane_upto history lane done) (if b then step ∷ [] else [])) e

    this_step : (b : Bool) → (j == lane) ≡ b → step_at history lane (length done)
        ≡ (if b then sending_step (length done) step else [])
    this_step b e = here history lane done rs (On j step) w
        ∙ ap (λ (c : Bool). if c then sending_step (length done) step else []) e

    whole_front : take (length done + 1) history ≡ done ++ On j step ∷ []
    whole_front =
        ap (λ (n : ℕ). take n history) (sym (length-more done (On j step)))
        ∙ ap (λ (v : List Seen). take (length (done ++ On j step ∷ [])) v)
        (w ∙ sym (append_assoc done (On j step ∷ []) rs))
        ∙ take-append_seam (done ++ On j step ∷ []) rs

    one : (b : Bool) → (j == lane) ≡ b → AreAllowed spells (lane_upto history lane done)
        (of_lane lane (On j step) ++ of_lane_all lane rs)
        → (ys : List HalfStep) → Left (length done + 1) (lane_upto history lane (done ++ On j step ∷ [])) ys
        → Left (length done) (lane_upto history lane done)
        ((if b then sending_step (length done) step else []) ++ ys)
    one false e po ys later = skip (length done) (lane_upto history lane done)
        (lane_upto history lane (done ++ On j step ∷ [])) ys (ap (λ (v : Halves). v.state) (next_lane false e))
        (this_step false e) later
    one true e po ys later = elim (shape (length done) step) [
      | inl em ↦
          (let sk : Left (length done) (lane_upto history lane done) ys =
          skip (length done) (lane_upto history lane done) (lane_upto history lane (done ++ On j step ∷ [])) ys
          (ap (λ (v : Halves). v.state) (next_lane true e)
          ∙ (silent (lane_upto history lane done) (length done) step em).0) (this_step true e ∙ em) later in
          subst (λ (v : List HalfStep). Left (length done) (lane_upto history lane done) (v ++ ys)) (sym em) sk)
      | inr c ↦
          (let jl : j ≡ lane = eqb-true j lane e in
          let pp : AreAllowed spells (lane_upto history lane done) (step ∷ of_lane_all lane rs) =
          subst (λ (b : Bool). AreAllowed spells (lane_upto history lane done)
          ((if b then step ∷ [] else []) ++ of_lane_all lane rs)) e po in
          let bo : Left (length done) (lane_upto history lane done) (c.0 ∷ ys) =
          both (length done) (lane_upto history lane done) (lane_upto history lane (done ++ On j step ∷ [])) step c.0 ys
          pp.0 (next_lane true e) c.1 (this_step true e ∙ c.1)
          (ap (λ (v : List Seen). slice_get v (length done)) w ∙ at-end done rs (On j step)
          ∙ ap (λ (v : ℕ). Some (On v step)) jl)
          (sym (upto-take history lane (length done + 1) (omega arith))
          ∙ ap (λ (v : List Seen). lane_upto history lane v) whole_front) later in
          subst (λ (v : List HalfStep). Left (length done) (lane_upto history lane done) (v ++ ys)) (sym c.1) bo)
    ]

  walk : (rest done : List Seen) → history ≡ done ++ rest
      → AreAllowed spells (lane_upto history lane done) (of_lane_all lane rest)
      → Left (length done) (lane_upto history lane done) (half_steps sending_step lane (length done) rest)
  walk [] done w po = λ es ls xs is g gd st ri ow. nothing-behind history lane xs st
      (subst (λ (v : List Seen). Rises (length v) xs) (sym (w ∙ append-nil done)) ri)
  walk (Elsewhere ∷ rs) done w po =
      skip (length done) (lane_upto history lane done) (lane_upto history lane (done ++ Elsewhere ∷ []))
      (half_steps sending_step lane (length done + 1) rs)
      (ap (λ (v : Halves). v.state) (upto-more history lane done Elsewhere)) (here history lane done rs Elsewhere w)
      (subst (λ (v : ℕ). Left v (lane_upto history lane (done ++ Elsewhere ∷ [])) (half_steps sending_step lane v rs))
      (length-more done Elsewhere)
      (walk rs (done ++ Elsewhere ∷ []) (w ∙ sym (append_assoc done (Elsewhere ∷ []) rs))
      (subst (λ (v : Halves). AreAllowed spells v (of_lane_all lane rs)) (sym (upto-more history lane done Elsewhere))
      po)))
  walk (Begins count lanes ∷ rs) done w po =
      skip (length done) (lane_upto history lane done) (lane_upto history lane (done ++ Begins count lanes ∷ []))
      (half_steps sending_step lane (length done + 1) rs)
      (ap (λ (v : Halves). v.state) (upto-more history lane done (Begins count lanes)))
      (here history lane done rs (Begins count lanes) w)
      (subst (λ (v : ℕ). Left v (lane_upto history lane (done ++ Begins count lanes ∷ []))
      (half_steps sending_step lane v rs)) (length-more done (Begins count lanes))
      (walk rs (done ++ Begins count lanes ∷ []) (w ∙ sym (append_assoc done (Begins count lanes ∷ []) rs))
      (subst (λ (v : Halves). AreAllowed spells v (of_lane_all lane rs))
      (sym (upto-more history lane done (Begins count lanes))) po)))
  walk (On j step ∷ rs) done w po =
      one done rs j step w (j == lane) refl po (half_steps sending_step lane (length done + 1) rs)
      (subst (λ (v : ℕ). Left v (lane_upto history lane (done ++ On j step ∷ [])) (half_steps sending_step lane v rs))
      (length-more done (On j step))
      (walk rs (done ++ On j step ∷ []) (w ∙ sym (append_assoc done (On j step ∷ []) rs))
      (subst (λ (v : Halves). AreAllowed spells v (of_lane_all lane rs)) (sym (upto-more history lane done (On j step)))
      (split spells (lane_upto history lane done) (of_lane lane (On j step)) (of_lane_all lane rs) po))))

  -- all lists stand
  stands-of : (es : List SessionEvent) (xs : List Placed) → StepsStand history es → EachStands history lane xs
      → EachStands history lane (placed_events lane es ++ xs)
  stands-of [] xs g k = k
  stands-of (x.Got u ∷ es) xs g k = stands-of es xs g k
  stands-of (x.Put u ∷ es) xs g k = stands-of es xs g k
  stands-of (x.Refused u ∷ es) xs g k = stands-of es xs g k
  stands-of (x.Looked n look ∷ es) xs g k = stands-of es xs g.1 k
  stands-of (x.Made p j step ∷ es) xs g k =
      subst (λ (v : List Placed). EachStands history lane v)
      (sym (append_assoc (placed_at p (sending_event lane (x.Made p j step))) (placed_events lane es) xs))
      (by_step (j == lane) refl (stands-of es xs g.1 k))
    where
      of-step : (st : SeenStep) (vs : List Placed) → step_at history lane p ≡ sending_step p st
          → EachStands history lane vs → EachStands history lane (placed_at p (sending_step_of st) ++ vs)
      of-step (h.Start a b o) vs e r = (e, r)
      of-step (h.Confirm a b n) vs e r = (e, r)
      of-step (h.To_end a b) vs e r = (e, r)
      of-step (h.Sent a b) vs e r = (e, r)
      of-step (h.Refused a b) vs e r = (e, r)
      of-step (h.Denied a b) vs e r = (e, r)
      of-step (h.Dropped a b) vs e r = (e, r)
      of-step (h.Abandon b) vs e r = (e, r)
      of-step _ vs e r = r

      by_step : (b : Bool) → (j == lane) ≡ b → EachStands history lane (placed_events lane es ++ xs)
          → EachStands history lane (placed_at p (if b then sending_step_of step else [])
          ++ (placed_events lane es ++ xs))
      by_step false e r = r
      by_step true e r =
          of-step step (placed_events lane es ++ xs)
          (ap (λ (v : Option Seen). step_here lane p v) g.0
          ∙ ap (λ (b : Bool). if b then sending_step p step else []) e) r

  lists-stand : (ls : List SessionList) → EachGood spells history lane size window initiator ls
      → EachBinds history lane ls → EachStands history lane (placed_lists lane ls)
  lists-stand [] g b = tt
  lists-stand (k ∷ ks) g b = (b.0, stands-of k.events (placed_lists lane ks) g.0.stands (lists-stand ks g.1 b.1))

pub keeps-order : OwningKeepsOrder
keeps-order spells before added lane size window initiator ls possible good g =
    let po : AreAllowed spells (lane_upto (before ++ added) lane before) (of_lane_all lane added) =
    behind-front spells before added lane possible in
    in-order lane ls (half_steps sending_step lane (length before) added)
    (walk spells (before ++ added) lane size window initiator added before refl po [] ls (placed_lists lane ls) refl
    (inl refl) good (lists-stand spells (before ++ added) lane size window initiator ls good g.binds) g.rise
    g.owned)
