-- Good session lists of a sending half, one after another in the history's order, are what its rules allow.
use Rattle.std.proofs.Common.{◌≡◌, ◌⊎◌, ℕ, ◌+◌, ◌-◌, Bool, true, false, not, List, [], ◌∷◌, ◌++◌, map, length, take}
use Rattle.std.proofs.Common.{refl, sym, ◌∙◌, ap, subst, arith, inl, inr}
use Rattle.std.proofs.lemmas.Bool.{eqb-true}
use Rattle.std.proofs.Math.Seq.{take-append_seam}
use Rattle.mta_lane_send.specs.declared.state.SendState.{SendState}
use Rattle.mta_lane_send.specs.declared.state.SendState.TheVariants as state
use Rattle.mta_lane_send.specs.Half.{last_of, is_idle, is_sending, is_ending, is_live, confirmed_of, confirmed_at}
use Rattle.mta_transfer_rules.specs.Sending as s
use Rattle.mta_transfer_rules.specs.Sending.{SendEnd, SendEvent, SendStep, stage_on_link}
use Rattle.mta_transfer_rules.specs.Lanes.{Halves, SeenStep, Seen, On, Allows, AreAllowed, halves_after, of_lane_all}
use Rattle.mta_transfer_rules.specs.Lanes.{lane_in}
use Rattle.mta_transfer_laws.specs.History.{half_steps, lane_upto}
use Rattle.mta_transfer_rules.specs.Lanes as h
use Rattle.mta_transfer_laws.specs.Sendings.{SendingList, EachGood, HalfStep, Binds, Makes, sending_step, OwnEvent}
use Rattle.mta_transfer_laws.specs.Sendings.{own_events, on, steps_in, ArePlain, InOrder, Ends, Outside, Stands}
use Rattle.mta_transfer_laws.specs.Sendings.{SendingsKeepRules, end_on_link}
use Rattle.mta_transfer_laws.proofs.Histories.{Next, next, behind-front, upto-take, length-more}
use Rattle.mta_transfer_laws.proofs.Sender.{Own, Away, Here, state_of, octets_of, begin, give_up, OwnRun, keeps}

abbrev pub Same : Halves → Halves → Type 0
Same a b = (b.state ≡ a.state) × (b.octets ≡ a.octets)

same-trans : (a b c : Halves) → Same a b → Same b c → Same a c
same-trans a b c p q = (q.0 ∙ p.0, q.1 ∙ p.1)

pub shape : (at : ℕ) (step : SeenStep) → (sending_step at step ≡ [])
    ⊎ ((y : HalfStep) × (sending_step at step ≡ y ∷ []))
shape at (h.LaneOpen a z v) = inr (Binds at, refl)
shape at (h.Bind g) = inr (Binds at, refl)
shape at (h.Start g k o) = inr (Makes (s.Start o), refl)
shape at (h.Confirm g k n) = inr (Makes (s.Confirm n), refl)
shape at (h.To_end g k) = inr (Makes s.To_end, refl)
shape at (h.Sent g k) = inr (Makes s.Sent, refl)
shape at (h.Refused g k) = inr (Makes s.Refused, refl)
shape at (h.Denied g k) = inr (Makes s.Denied, refl)
shape at (h.Dropped g k) = inr (Makes s.Dropped, refl)
shape at (h.Abandon k) = inr (Makes s.Abandon, refl)
shape at any1 = inl refl

pub silent : (l : Halves) (at : ℕ) (step : SeenStep) → sending_step at step ≡ [] → Same l (halves_after l step)
silent l at (h.LaneAgree z v) e = (refl, refl)
silent l at (h.Secure g k n p) e = (refl, refl)
silent l at (h.Complete g k n p) e = (refl, refl)
silent l at (h.Drop g k) e = (refl, refl)
silent l at (h.CloseLane g) e = (refl, refl)
silent l at _ e = absurd cc

-- What a step of the half leaves ------------------------------------------------------------------------

pub record Leads (l m : Halves) (st : SendStep) : Type 0 where
  pub state : m.state ≡ s.state_after l.state st
  pub octets : (o : List ℕ) → (is_idle l.state ≡ false → o ≡ l.octets) → is_idle m.state ≡ false → s.octets_after o st
      ≡ m.octets
  pub given : st ≡ s.Abandon → is_sending l.state (last_of l.state) ≡ true

abbrev pub After : (l m : Halves) (at : ℕ) → HalfStep → Type 0
After l m at (Binds a) = (a ≡ at) × Same l m
After l m at (Makes st) = Leads l m st

live-last : (st : SendState) (k : ℕ) → is_live st k ≡ true → k ≡ last_of st
live-last (state.Idle l) k e = absurd cc
live-last (state.Sending j c) k e = eqb-true k j e
live-last (state.Ending j c) k e = eqb-true k j e
live-last (state.Dropping j) k e = eqb-true k j e

ending-live : (st : SendState) (k : ℕ) → is_ending st k ≡ true → is_live st k ≡ true
ending-live (state.Ending j c) k e = e
ending-live any0 k e = absurd cc

sending-live : (st : SendState) (k : ℕ) → is_sending st k ≡ true → (is_live st k ≡ true) × (is_idle st ≡ false)
sending-live (state.Sending j c) k e = (e, refl)
sending-live any0 k e = absurd cc

on-idle : (st : SendState) (n : ℕ) → is_idle (confirmed_at st n) ≡ false → is_idle st ≡ false
on-idle (state.Idle l) n e = e
on-idle any0 n e = refl

settles : (l : Halves) (k : ℕ) (st : SendStep) → is_live l.state k ≡ true → (st ≡ s.Abandon → ⊥)
    → s.state_after l.state st ≡ state.Idle (last_of l.state) → Leads l (h.settled l k) st
settles l k st v na e = record {
  state = ap (λ (z : ℕ). state.Idle z) (live-last l.state k v) ∙ sym e;
  octets = λ o same i. absurd (let c : true ≡ false = i in cc);
  given = λ a. absurd (na a);
}

first-of : (a b : HalfStep) → a ∷ [] ≡ b ∷ [] → a ≡ b
first-of a b e = cc

module _ (spells : List ℕ → Bool) (l : Halves) (at : ℕ) (y : HalfStep) where
  as-is : (z : HalfStep) (m : Halves) → z ∷ [] ≡ y ∷ [] → After l m at z → After l m at y
  as-is z m e a = subst (λ (v : HalfStep). After l m at v) (first-of z y e) a

  pub leads : (step : SeenStep) → Allows spells l step → sending_step at step ≡ y ∷ []
      → After l (halves_after l step) at y
  leads (h.LaneOpen a z v) p e = as-is (Binds at) _ e (refl, (refl, refl))
  leads (h.Bind g) p e = as-is (Binds at) _ e (refl, (refl, refl))
  leads (h.Start g k o) p e = as-is (Makes (s.Start o)) _ e (record {
    state = (let v : k ≡ last_of l.state
        + 1 = (let a : k ≡ (k - 1) + 1 = omega (arith, p.3) in a ∙ ap (λ (z : SendState). last_of z + 1) (sym p.2)) in
        ap (λ (z : ℕ). state.Sending z 0) v);
    octets = λ q same i. refl;
    given = λ c. absurd (let d : s.Start o ≡ s.Abandon = c in cc);
  })
  leads (h.Confirm g k n) p e = as-is (Makes (s.Confirm n)) _ e (record {
    state = refl;
    octets = λ q same i. same (on-idle l.state n i);
    given = λ c. absurd (let d : s.Confirm n ≡ s.Abandon = c in cc);
  })
  leads (h.To_end g k) p e = as-is (Makes s.To_end) _ e (record {
    state = ap (λ (z : ℕ). state.Ending z (confirmed_of l.state)) (live-last l.state k (sending-live l.state k p.1).0);
    octets = λ q same i. same (sending-live l.state k p.1).1;
    given = λ c. absurd (let d : s.To_end ≡ s.Abandon = c in cc);
  })
  leads (h.Sent g k) p e = as-is (Makes s.Sent) _ e (settles l k s.Sent (ending-live l.state k p.1) (λ c. cc) refl)
  leads (h.Refused g k) p e = as-is (Makes s.Refused) _ e (settles l k s.Refused p.1 (λ c. cc) refl)
  leads (h.Denied g k) p e = as-is (Makes s.Denied) _ e (settles l k s.Denied p.1 (λ c. cc) refl)
  leads (h.Dropped g k) p e = as-is (Makes s.Dropped) _ e (settles l k s.Dropped p.1 (λ c. cc) refl)
  leads (h.Abandon k) p e = as-is (Makes s.Abandon) _ e (record {
    state = ap (λ (z : ℕ). state.Dropping z) (live-last l.state k (sending-live l.state k p.1).0);
    octets = λ q same i. same (sending-live l.state k p.1).1;
    given = λ c. subst (λ (z : ℕ). is_sending l.state z ≡ true) (live-last l.state k (sending-live l.state k p.1).0)
        p.1;
  })
  leads any0 p e = absurd cc

-- One list behind the other ------------------------------------------------------------------------------

module _ (spells : List ℕ → Bool) (whole : List Seen) (lane size window : ℕ) (accepted : Bool) where
  -- how far the history has been followed: these steps of the half are left, and it is in this state
  pub record Place (steps : List HalfStep) (st : SendState) (o : List ℕ) : Type 0 where
    pub done : List Seen
    pub rest : List Seen
    pub is_whole : whole ≡ done ++ rest
    pub left : half_steps sending_step lane (length done) rest ≡ steps
    pub possible : AreAllowed spells (lane_upto whole lane done) (of_lane_all lane rest)
    pub state : (lane_upto whole lane done).state ≡ st
    pub octets : is_idle st ≡ false → o ≡ (lane_upto whole lane done).octets

  found : (y : HalfStep) (ys : List HalfStep) (st : SendState) (o : List ℕ) (p : Place (y ∷ ys) st o)
      → Next spells sending_step lane Same whole p.done y ys
  found y ys st o p = next spells sending_step lane Same whole (λ l. (refl, refl)) same-trans shape silent p.rest p.done
      y ys p.is_whole p.left p.possible

  makes : (step : SendStep) (ys : List HalfStep) (st : SendState) (o : List ℕ) → Place (Makes step ∷ ys) st o
      → Place ys (s.state_after st step) (s.octets_after o step)
      × (step ≡ s.Abandon → is_sending st (last_of st) ≡ true)
  makes step ys st o p =
      let n : Next spells sending_step lane Same whole p.done (Makes step) ys = found (Makes step) ys st o p in
      let d : Leads (lane_upto whole lane n.front) (halves_after (lane_upto whole lane n.front) n.step) step =
      leads spells (lane_upto whole lane n.front) (length n.front) (Makes step) n.step n.possible n.is_next in
      let e : (lane_upto whole lane n.front).state ≡ st = n.same.0 ∙ p.state in (
        record {
          done = n.front ++ On lane n.step ∷ [];
          rest = n.more;
          is_whole = n.is_whole;
          left = n.later;
          possible = n.rest_possible;
          state = ap (λ (l : Halves). l.state) n.after ∙ d.state ∙ ap (λ (z : SendState). s.state_after z step) e;
          octets = λ i.
              d.octets o (λ j. p.octets (ap is_idle (sym e) ∙ j) ∙ sym n.same.1)
              (ap is_idle (d.state ∙ ap (λ (z : SendState). s.state_after z step) e) ∙ i)
              ∙ sym (ap (λ (l : Halves). l.octets) n.after);
        },
        λ a. subst (λ (z : SendState). is_sending z (last_of z) ≡ true) e (d.given a),
      )

  binds : (at : ℕ) (ys : List HalfStep) (st : SendState) (o : List ℕ) → Place (Binds at ∷ ys) st o → (p : Place ys st o)
      × (p.done ≡ take (at + 1) whole)
  binds at ys st o p =
      let n : Next spells sending_step lane Same whole p.done (Binds at) ys = found (Binds at) ys st o p in
      let d : (at ≡ length n.front) × Same (lane_upto whole lane n.front)
      (halves_after (lane_upto whole lane n.front) n.step) =
      leads spells (lane_upto whole lane n.front) (length n.front) (Binds at) n.step n.possible n.is_next in
      let here : List Seen = n.front ++ On lane n.step ∷ [] in
      let long : length here ≡ at + 1 = length-more n.front (On lane n.step) ∙ ap (λ (z : ℕ). z + 1) (sym d.0) in (
        record {
          done = here;
          rest = n.more;
          is_whole = n.is_whole;
          left = n.later;
          possible = n.rest_possible;
          state = ap (λ (l : Halves). l.state) n.after ∙ d.1.0 ∙ n.same.0 ∙ p.state;
          octets = λ i. p.octets i ∙ sym n.same.1 ∙ sym d.1.1 ∙ sym (ap (λ (l : Halves). l.octets) n.after);
        },
        sym (ap (λ (z : List Seen). take (at + 1) z) n.is_whole ∙ ap (λ (z : ℕ). take z (here ++ n.more)) (sym long)
            ∙ take-append_seam here n.more),
      )

  session : (events : List SendEvent) (link : ℕ) (e f : SendEnd) (own : List OwnEvent) (ys : List HalfStep)
      → ArePlain events → s.IsSendingEnd e events f
      → Place (steps_in events ++ ys) e.state e.octets
      → (Place ys f.state f.octets → OwnRun size window accepted (Here link f) own)
      → OwnRun size window accepted (Here link e) (map (on link) events ++ own)
  session [] link e f own ys a g p k = subst (λ (z : SendEnd).
      (Place ys z.state z.octets → OwnRun size window accepted (Here link z) own)
      → OwnRun size window accepted (Here link e) own) (sym g) (λ q. q p) k
  session (s.New_link b ∷ es) link e f own ys a g p k = absurd a.0
  session (s.Put y ∷ es) link e f own ys a g p k = (refl, tt, tt, g.0, session es link (s.put e y) f own ys a.1 g.1 p k)
  session (s.Got y ∷ es) link e f own ys a g p k = (refl, tt, tt, g.0, session es link (s.got e y) f own ys a.1 g.1 p k)
  session (s.Made (s.Start new) ∷ es) link e f own ys a g p k = (
    refl,
    tt,
    tt,
    g.0,
    session es link (s.made e (s.Start new)) f own ys a.1 g.1
        (makes (s.Start new) (steps_in es ++ ys) e.state e.octets p).0 k,
  )
  session (s.Made (s.Confirm n) ∷ es) link e f own ys a g p k = (
    refl,
    tt,
    tt,
    g.0,
    session es link (s.made e (s.Confirm n)) f own ys a.1 g.1
        (makes (s.Confirm n) (steps_in es ++ ys) e.state e.octets p).0 k,
  )
  session (s.Made s.To_end ∷ es) link e f own ys a g p k = (
    refl,
    tt,
    tt,
    g.0,
    session es link (s.made e s.To_end) f own ys a.1 g.1
        (makes s.To_end (steps_in es ++ ys) e.state e.octets p).0 k,
  )
  session (s.Made s.Sent ∷ es) link e f own ys a g p k = (
    refl,
    tt,
    tt,
    g.0,
    session es link (s.made e s.Sent) f own ys a.1 g.1
        (makes s.Sent (steps_in es ++ ys) e.state e.octets p).0 k,
  )
  session (s.Made s.Dropped ∷ es) link e f own ys a g p k = (
    refl,
    tt,
    tt,
    g.0,
    session es link (s.made e s.Dropped) f own ys a.1 g.1
        (makes s.Dropped (steps_in es ++ ys) e.state e.octets p).0 k,
  )
  session (s.Made s.Refused ∷ es) link e f own ys a g p k = (
    refl,
    tt,
    tt,
    g.0,
    session es link (s.made e s.Refused) f own ys a.1 g.1
        (makes s.Refused (steps_in es ++ ys) e.state e.octets p).0 k,
  )
  session (s.Made s.Denied ∷ es) link e f own ys a g p k = (
    refl,
    tt,
    tt,
    g.0,
    session es link (s.made e s.Denied) f own ys a.1 g.1
        (makes s.Denied (steps_in es ++ ys) e.state e.octets p).0 k,
  )
  session (s.Made s.Abandon ∷ es) link e f own ys a g p k = (
    g.0,
    session es link (s.made e s.Abandon) f own ys a.1 g.1
        (makes s.Abandon (steps_in es ++ ys) e.state e.octets p).0 k,
  )

  follow : (own : Own) (step : SendStep) → step ≡ s.Abandon
      → (state_of (give_up own) ≡ s.state_after (state_of own) s.Abandon) × (octets_of (give_up own) ≡ octets_of own)
  follow (Away st o) step e = (refl, refl)
  follow (Here j f) step e = (refl, refl)

  pub schedule : (lists : List SendingList) (owns : List OwnEvent) (steps : List HalfStep) → InOrder lists owns steps
      → EachGood whole lane size window accepted lists
      → (own : Own) → Place steps (state_of own) (octets_of own) → OwnRun size window accepted own owns
  schedule lists owns steps Ends g own p = tt
  schedule lists owns steps (Outside {ls = ls} {own = es} {steps = ys} d) g own p =
      let m : Place ys (s.state_after (state_of own) s.Abandon) (octets_of own)
      × (s.Abandon ≡ s.Abandon → is_sending (state_of own) (last_of (state_of own)) ≡ true) =
      makes s.Abandon ys (state_of own) (octets_of own) p in
      let fo : (state_of (give_up own) ≡ s.state_after (state_of own) s.Abandon)
      × (octets_of (give_up own) ≡ octets_of own) = follow own s.Abandon refl in (
        m.1 refl,
        schedule ls es ys d g (give_up own)
            (subst (λ (z : SendState). Place ys z (octets_of (give_up own))) (sym fo.0)
            (subst (λ (z : List ℕ). Place ys (s.state_after (state_of own) s.Abandon) z) (sym fo.1) m.0)),
      )
  schedule lists owns steps (Stands {ls = ls} {own = es} {steps = ys} link l d) g own p =
      let b : (q : Place (steps_in l.events ++ ys) (state_of own) (octets_of own))
      × (q.done ≡ take (l.at + 1) whole) = binds l.at (steps_in l.events ++ ys) (state_of own) (octets_of own) p in
      let q : Place (steps_in l.events ++ ys) (state_of own) (octets_of own) = b.0 in
      let found_there : Halves = lane_upto whole lane q.done in
      let o : List ℕ = found_there.octets in
      let e : SendEnd = begin (state_of own) o size window accepted in
      let as_told : lane_in lane (take (l.at + 1) whole) ≡ found_there =
      sym (ap (λ (z : List Seen). lane_upto whole lane z) b.1 ∙ upto-take whole lane (l.at + 1) (omega arith)) in
      let al : s.IsSendingEnd (end_on_link found_there size window accepted) l.events g.0.last_end =
      subst (λ (z : Halves). s.IsSendingEnd (end_on_link z size window accepted) l.events g.0.last_end) as_told
      g.0.allowed in
      let be : s.IsSendingEnd e l.events g.0.last_end =
      subst (λ (z : SendState). s.IsSendingEnd (begin z o size window accepted) l.events g.0.last_end) q.state al in
      let pl : Place (steps_in l.events ++ ys) (state_of own) o =
      record {
        done = q.done;
        rest = q.rest;
        is_whole = q.is_whole;
        left = q.left;
        possible = q.possible;
        state =
            q.state;
        octets = λ i. refl;
      } in (
        o,
        q.octets,
        session l.events link e g.0.last_end es ys g.0.plain be pl
            (λ k. schedule ls es ys d g.1 (Here link g.0.last_end) k),
      )

-- Together ---------------------------------------------------------------------------------------------------

pub keep-rules : SendingsKeepRules
keep-rules spells before added lane lists w events g =
    let l : Halves = lane_upto (before ++ added) lane before in
    keeps w (Away l.state l.octets) events g.fits
    (schedule spells (before ++ added) lane w.size w.window (not w.sender_opens) lists (own_events events)
    (half_steps sending_step lane (length before) added) g.order g.good (Away l.state l.octets)
    (record {
      done = before;
      rest = added;
      is_whole = refl;
      left = refl;
      possible = behind-front spells before added lane g.possible;
      state = refl;
      octets = λ i. refl;
    }))
    (g.begins.state, λ i. g.begins.octets (ap is_idle (sym g.begins.state) ∙ i))
