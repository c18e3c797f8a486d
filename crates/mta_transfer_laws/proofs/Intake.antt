-- Good session lists of a receiving half, one after another in the history's order, are what its rules allow.
use Rattle.std.proofs.Common.{◌≡◌, ◌⊎◌, ℕ, ◌+◌, Bool, Option, Some, unwrap_or, List, [], ◌∷◌, ◌++◌, map, length, take}
use Rattle.std.proofs.Common.{refl, sym, ◌∙◌, ap, subst, arith, inl, inr}
use Rattle.std.proofs.Math.Seq.{take-append_seam}
use Rattle.mta_lane_recv.specs.declared.state.Last.{Last}
use Rattle.mta_lane_recv.specs.declared.state.Last.TheVariants as last
use Rattle.mta_transfer_rules.specs.Receiving as r
use Rattle.mta_transfer_rules.specs.Receiving.{RecvEnd, RecvEvent, RecvStep}
use Rattle.mta_world.specs.Steps.{pieces_after}
use Rattle.mta_transfer_rules.specs.Lanes.{Halves, SeenStep, Seen, On, Allows, AreAllowed, halves_after, of_lane_all}
use Rattle.mta_transfer_rules.specs.Lanes.{lane_in}
use Rattle.mta_transfer_laws.specs.History.{half_steps, lane_upto}
use Rattle.mta_transfer_rules.specs.Lanes as h
use Rattle.mta_transfer_laws.specs.Receivings.{ReceivingList, EachGood, HalfStep, Binds, Makes, receiving_step}
use Rattle.mta_transfer_laws.specs.Receivings.{OwnEvent, Does, own_events, steps_in, ArePlain, AreTrue, InOrder, Ends}
use Rattle.mta_transfer_laws.specs.Receivings.{Stands, ReceivingsKeepRules, end_on_link}
use Rattle.mta_transfer_laws.proofs.Histories.{Next, next, behind-front, upto-take, length-more}
use Rattle.mta_transfer_laws.proofs.Receiver.{Own, Away, Here, high_of, last_of, pieces_of, begin, IsSpelt, OwnRun}
use Rattle.mta_transfer_laws.proofs.Receiver.{keeps, KeepsHalf, taken, take-keeps, put-keeps}

abbrev Same : Halves → Halves → Type 0
Same a b = (b.high ≡ a.high) × (b.last ≡ a.last) × (b.pieces ≡ a.pieces)

same-trans : (a b c : Halves) → Same a b → Same b c → Same a c
same-trans a b c p q = (q.0 ∙ p.0, q.1 ∙ p.1, q.2 ∙ p.2)

pub shape : (at : ℕ) (step : SeenStep) → (receiving_step at step ≡ [])
    ⊎ ((y : HalfStep) × (receiving_step at step ≡ y ∷ []))
shape at (h.LaneOpen a z v) = inr (Binds at, refl)
shape at (h.Bind g) = inr (Binds at, refl)
shape at (h.Secure g k n p) = inr (Makes (r.Secure k n p), refl)
shape at (h.Complete g k n p) = inr (Makes (r.Complete k n p), refl)
shape at (h.Drop g k) = inr (Makes (r.Drop k), refl)
shape at _ = inl refl

silent : (l : Halves) (at : ℕ) (step : SeenStep) → receiving_step at step ≡ [] → Same l (halves_after l step)
silent l at (h.LaneOpen a z v) e = absurd cc
silent l at (h.Bind g) e = absurd cc
silent l at (h.Secure g k n p) e = absurd cc
silent l at (h.Complete g k n p) e = absurd cc
silent l at (h.Drop g k) e = absurd cc
silent l at _ e = (refl, refl, refl)

-- What a step of the half leaves ------------------------------------------------------------------------

abbrev high_after : ℕ → RecvStep → ℕ
high_after n (r.Secure k m p) = k
high_after n (r.Complete k m p) = k
high_after n (r.Drop k) = n

abbrev last_after : Last → RecvStep → Last
last_after l (r.Secure k m p) = last.Partial k m
last_after l (r.Complete k m p) = last.Done k
last_after l (r.Drop k) = last.None

record Leads (spells : List ℕ → Bool) (l m : Halves) (st : RecvStep) : Type 0 where
  high : m.high ≡ high_after l.high st
  last : m.last ≡ last_after l.last st
  pieces : m.pieces ≡ pieces_after l.pieces st
  spelt : IsSpelt spells l.pieces (r.Made st)

abbrev After : (List ℕ → Bool) → (l m : Halves) (at : ℕ) → HalfStep → Type 0
After spells l m at (Binds a) = (a ≡ at) × Same l m
After spells l m at (Makes st) = Leads spells l m st

first-of : (a b : HalfStep) → a ∷ [] ≡ b ∷ [] → a ≡ b
first-of a b e = cc

module _ (spells : List ℕ → Bool) (l : Halves) (at : ℕ) (y : HalfStep) where
  as-is : (z : HalfStep) (m : Halves) → z ∷ [] ≡ y ∷ [] → After spells l m at z → After spells l m at y
  as-is z m e a = subst (λ (v : HalfStep). After spells l m at v) (first-of z y e) a

  leads : (step : SeenStep) → Allows spells l step → receiving_step at step ≡ y ∷ []
      → After spells l (halves_after l step) at y
  leads (h.LaneOpen a z v) p e = as-is (Binds at) _ e (refl, (refl, refl, refl))
  leads (h.Bind g) p e = as-is (Binds at) _ e (refl, (refl, refl, refl))
  leads (h.Secure g k n o) p e = as-is (Makes (r.Secure k n o)) _ e
      (record { high = refl; last = refl; pieces = refl; spelt = tt })
  leads (h.Complete g k n o) p e = as-is (Makes (r.Complete k n o)) _ e
      (record { high = refl; last = refl; pieces = refl; spelt = p.3 })
  leads (h.Drop g k) p e = as-is (Makes (r.Drop k)) _ e (record { high = refl; last = refl; pieces = refl; spelt = tt })
  leads _ p e = absurd cc

-- One list behind the other ------------------------------------------------------------------------------

module _ (spells : List ℕ → Bool) (whole : List Seen) (lane : ℕ) where
  pub record Place (steps : List HalfStep) (a : ℕ) (b : Last) (c : List (List ℕ)) : Type 0 where
    pub done : List Seen
    pub rest : List Seen
    pub is_whole : whole ≡ done ++ rest
    pub left : half_steps receiving_step lane (length done) rest ≡ steps
    pub possible : AreAllowed spells (lane_upto whole lane done) (of_lane_all lane rest)
    pub high : (lane_upto whole lane done).high ≡ a
    pub last : (lane_upto whole lane done).last ≡ b
    pub pieces : (lane_upto whole lane done).pieces ≡ c

  found : (y : HalfStep) (ys : List HalfStep) (a : ℕ) (b : Last) (c : List (List ℕ)) (p : Place (y ∷ ys) a b c)
      → Next spells receiving_step lane Same whole p.done y ys
  found y ys a b c p = next spells receiving_step lane Same whole (λ l. (refl, refl, refl)) same-trans shape silent
      p.rest p.done y ys p.is_whole p.left p.possible

  makes : (st : RecvStep) (ys : List HalfStep) (a : ℕ) (b : Last) (c : List (List ℕ)) → Place (Makes st ∷ ys) a b c
      → Place ys (high_after a st) (last_after b st) (pieces_after c st) × IsSpelt spells c (r.Made st)
  makes st ys a b c p =
      let n : Next spells receiving_step lane Same whole p.done (Makes st) ys = found (Makes st) ys a b c p in
      let d : Leads spells (lane_upto whole lane n.front) (halves_after (lane_upto whole lane n.front) n.step) st =
      leads spells (lane_upto whole lane n.front) (length n.front) (Makes st) n.step n.possible n.is_next in
      let pc : (lane_upto whole lane n.front).pieces ≡ c = n.same.2 ∙ p.pieces in (
        record {
          done = n.front ++ On lane n.step ∷ [];
          rest = n.more;
          is_whole = n.is_whole;
          left = n.later;
          possible = n.rest_possible;
          high = ap (λ (l : Halves). l.high) n.after ∙ d.high ∙ ap (λ (z : ℕ). high_after z st) (n.same.0 ∙ p.high);
          last = ap (λ (l : Halves). l.last) n.after ∙ d.last ∙ ap (λ (z : Last). last_after z st) (n.same.1 ∙ p.last);
          pieces = ap (λ (l : Halves). l.pieces) n.after ∙ d.pieces ∙ ap (λ (z : List (List ℕ)). pieces_after z st) pc;
        },
        subst (λ (z : List (List ℕ)). IsSpelt spells z (r.Made st)) pc d.spelt,
      )

  binds : (at : ℕ) (ys : List HalfStep) (a : ℕ) (b : Last) (c : List (List ℕ)) → Place (Binds at ∷ ys) a b c
      → (p : Place ys a b c) × (p.done ≡ take (at + 1) whole)
  binds at ys a b c p =
      let n : Next spells receiving_step lane Same whole p.done (Binds at) ys = found (Binds at) ys a b c p in
      let d : (at ≡ length n.front) × Same (lane_upto whole lane n.front)
      (halves_after (lane_upto whole lane n.front) n.step) =
      leads spells (lane_upto whole lane n.front) (length n.front) (Binds at) n.step n.possible n.is_next in
      let here : List Seen = n.front ++ On lane n.step ∷ [] in
      let long : length here ≡ at + 1 = length-more n.front (On lane n.step) ∙ ap (λ (z : ℕ). z + 1) (sym d.0) in (
        record {
          done = here;
          rest = n.more;
          is_whole = n.is_whole;
          left = n.later;
          possible = n.rest_possible;
          high = ap (λ (l : Halves). l.high) n.after ∙ d.1.0 ∙ n.same.0 ∙ p.high;
          last = ap (λ (l : Halves). l.last) n.after ∙ d.1.1 ∙ n.same.1 ∙ p.last;
          pieces = ap (λ (l : Halves). l.pieces) n.after ∙ d.1.2 ∙ n.same.2 ∙ p.pieces;
        },
        sym (ap (λ (z : List Seen). take (at + 1) z) n.is_whole ∙ ap (λ (z : ℕ). take z (here ++ n.more)) (sym long)
            ∙ take-append_seam here n.more),
      )

  moved : (steps : List HalfStep) (e f : RecvEnd) (p : List (List ℕ)) → KeepsHalf e f → Place steps e.high e.last p
      → Place steps f.high f.last p
  moved steps e f p k pl = record {
    done = pl.done;
    rest = pl.rest;
    is_whole = pl.is_whole;
    left = pl.left;
    possible =
        pl.possible;
    high = pl.high ∙ sym k.0;
    last = pl.last ∙ sym k.1;
    pieces = pl.pieces;
  }

  session : (events : List RecvEvent) (link : ℕ) (e f : RecvEnd) (p : List (List ℕ)) (own : List OwnEvent)
      (ys : List HalfStep) → ArePlain events → r.IsReceivingEnd e events f → AreTrue spells e p events
      → Place (steps_in events ++ ys) e.high e.last p
      → ((q : List (List ℕ)) → Place ys f.high f.last q → OwnRun spells (Here link f q) own)
      → OwnRun spells (Here link e p) (map (λ (z : RecvEvent). Does link z) events ++ own)
  session [] link e f p own ys a g t pl k =
      subst (λ (z : RecvEnd). ((q : List (List ℕ)) → Place ys z.high z.last q → OwnRun spells (Here link z q) own)
      → OwnRun spells (Here link e p) own) (sym g) (λ q. q p pl) k
  session (r.New_link ∷ es) link e f p own ys a g t pl k = absurd a.0
  session (r.Took y ∷ es) link e f p own ys a g t pl k =
      let tk : (z : RecvEnd) × (r.take e y ≡ Some z) = taken e (r.take e y) g.0 in
      let same : KeepsHalf e (r.recv_after e (r.Took y)) =
      subst (λ (z : RecvEnd). KeepsHalf e z) (sym (ap (λ (z : Option RecvEnd). unwrap_or z e) tk.1))
      (take-keeps e.stage e tk.0 y refl tk.1) in (
        refl,
        tt,
        g.0,
        tt,
        tt,
        session es link (r.recv_after e (r.Took y)) f p own ys a.1 g.1 t.1
            (moved (steps_in es ++ ys) e (r.recv_after e (r.Took y)) p same pl) k,
      )
  session (r.Put y ∷ es) link e f p own ys a g t pl k = (
    refl,
    tt,
    g.0,
    tt,
    tt,
    session es link (r.put e y) f p own ys a.1 g.1 t.1
        (moved (steps_in es ++ ys) e (r.put e y) p (put-keeps e y) pl) k,
  )
  session (r.Finds i n piece ∷ es) link e f p own ys a g t pl k =
      (refl, tt, g.0, t.0, tt, session es link (r.found e i) f p own ys a.1 g.1 t.1 pl k)
  session (r.Made (r.Secure i n piece) ∷ es) link e f p own ys a g t pl k =
      let m : Place (steps_in es ++ ys) (high_after e.high (r.Secure i n piece))
      (last_after e.last (r.Secure i n piece)) (pieces_after p (r.Secure i n piece))
      × IsSpelt spells p (r.Made (r.Secure i n piece)) =
      makes (r.Secure i n piece) (steps_in es ++ ys) e.high e.last p pl in (
        refl,
        tt,
        g.0,
        tt,
        m.1,
        session es link (r.made e (r.Secure i n piece)) f (pieces_after p (r.Secure i n piece))
            own ys a.1 g.1 t.1 m.0 k,
      )
  session (r.Made (r.Complete i n piece) ∷ es) link e f p own ys a g t pl k =
      let m : Place (steps_in es ++ ys) (high_after e.high (r.Complete i n piece))
      (last_after e.last (r.Complete i n piece)) (pieces_after p (r.Complete i n piece))
      × IsSpelt spells p (r.Made (r.Complete i n piece)) =
      makes (r.Complete i n piece) (steps_in es ++ ys) e.high e.last p pl in (
        refl,
        tt,
        g.0,
        tt,
        m.1,
        session es link (r.made e (r.Complete i n piece)) f
            (pieces_after p (r.Complete i n piece)) own ys a.1 g.1 t.1 m.0 k,
      )
  session (r.Made (r.Drop i) ∷ es) link e f p own ys a g t pl k =
      let m : Place (steps_in es ++ ys) (high_after e.high (r.Drop i)) (last_after e.last (r.Drop i))
      (pieces_after p (r.Drop i)) × IsSpelt spells p (r.Made (r.Drop i)) =
      makes (r.Drop i) (steps_in es ++ ys) e.high e.last p pl in (
        refl,
        tt,
        g.0,
        tt,
        m.1,
        session es link (r.made e (r.Drop i)) f (pieces_after p (r.Drop i)) own ys a.1 g.1 t.1
            m.0 k,
      )

  pub schedule : (lists : List ReceivingList) (owns : List OwnEvent) (steps : List HalfStep) → InOrder lists owns steps
      → EachGood spells whole lane lists
      → (own : Own) → Place steps (high_of own) (last_of own) (pieces_of own) → OwnRun spells own owns
  schedule lists owns steps Ends g own p = tt
  schedule lists owns steps (Stands {ls = ls} {own = es} {steps = ys} link l d) g own p =
      let b : (q : Place (steps_in l.events ++ ys) (high_of own) (last_of own) (pieces_of own))
      × (q.done ≡ take (l.at + 1) whole) =
      binds l.at (steps_in l.events ++ ys) (high_of own) (last_of own) (pieces_of own) p in
      let q : Place (steps_in l.events ++ ys) (high_of own) (last_of own) (pieces_of own) = b.0 in
      let e : RecvEnd = begin (high_of own) (last_of own) in
      let found_there : Halves = lane_upto whole lane q.done in
      let here : RecvEnd = end_on_link found_there in
      let as_told : lane_in lane (take (l.at + 1) whole) ≡ found_there =
      sym (ap (λ (z : List Seen). lane_upto whole lane z) b.1 ∙ upto-take whole lane (l.at + 1) (omega arith)) in
      let same : here ≡ e = ap (λ (z : ℕ). begin z found_there.last) q.high
      ∙ ap (λ (z : Last). begin (high_of own) z) q.last in
      let al : r.IsReceivingEnd e l.events g.0.last_end =
      subst (λ (z : RecvEnd). r.IsReceivingEnd z l.events g.0.last_end) same
      (subst (λ (z : Halves). r.IsReceivingEnd (end_on_link z) l.events g.0.last_end) as_told g.0.allowed) in
      let tr : AreTrue spells e (pieces_of own) l.events =
      subst (λ (z : RecvEnd). AreTrue spells z (pieces_of own) l.events) same
      (subst (λ (z : List (List ℕ)). AreTrue spells here z l.events) q.pieces
      (subst (λ (z : Halves). AreTrue spells (end_on_link z) z.pieces l.events) as_told g.0.findings)) in
      session l.events link e g.0.last_end (pieces_of own) es ys g.0.plain al tr q
      (λ c k. schedule ls es ys d g.1 (Here link g.0.last_end c) k)

-- Together ---------------------------------------------------------------------------------------------------

pub keep-rules : ReceivingsKeepRules
keep-rules spells before added lane lists w events g =
    let l : Halves = lane_upto (before ++ added) lane before in
    keeps spells w (Away l.high l.last l.pieces) events g.fits
    (schedule spells (before ++ added) lane lists (own_events events)
    (half_steps receiving_step lane (length before) added) g.order g.good (Away l.high l.last l.pieces)
    (record {
      done = before;
      rest = added;
      is_whole = refl;
      left = refl;
      possible = behind-front spells before added lane g.possible;
      high = refl;
      last = refl;
      pieces = refl;
    }))
    (g.begins.high, g.begins.last, g.begins.pieces)
