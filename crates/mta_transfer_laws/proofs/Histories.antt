-- The next step of a half in a history, and the lane there.
use Rattle.std.proofs.Common.{◌≡◌, ◌⊎◌, ◌≤◌, ℕ, zero, suc, ◌+◌, ◌==◌, Bool, true, false, List, [], ◌∷◌, ◌++◌, length}
use Rattle.std.proofs.Common.{take, refl, sym, ◌∙◌, ap, subst, arith, inl, inr, append_assoc, append-nil}
use Rattle.std.proofs.lemmas.Bool.{eqb-true}
use Rattle.std.proofs.lemmas.List.{length-append}
use Rattle.mta_transfer_rules.specs.Lanes.{Halves, SeenStep, Seen, On, Elsewhere, Begins, Allows, AreAllowed}
use Rattle.mta_transfer_rules.specs.Lanes.{halves_after}
use Rattle.mta_transfer_rules.specs.Lanes.{of_lane, of_lane_all, halves_run, lane_at_first, lane_in, LanesAllow}
use Rattle.mta_transfer_laws.specs.History.{half_of, half_steps, lane_upto}

after-append : (l : Halves) (a b : List SeenStep) → halves_run l (a ++ b) ≡ halves_run (halves_run l a) b
after-append l [] b = refl
after-append l (x ∷ xs) b = after-append (halves_after l x) xs b

pub of-append : (lane : ℕ) (a b : List Seen) → of_lane_all lane (a ++ b) ≡ of_lane_all lane a ++ of_lane_all lane b
of-append lane [] b = refl
of-append lane (x ∷ xs) b = ap (λ (z : List SeenStep). of_lane lane x ++ z) (of-append lane xs b)
    ∙ sym (append_assoc (of_lane lane x) (of_lane_all lane xs) (of_lane_all lane b))

-- ---- a lane in a history, from where the history begins

-- where a history begins, its first step alone tells
pub first-only : (lane : ℕ) (x : Seen) (xs ys : List Seen) → lane_at_first lane (x ∷ xs) ≡ lane_at_first lane (x ∷ ys)
first-only lane (On j step) xs ys = refl
first-only lane Elsewhere xs ys = refl
first-only lane (Begins count lanes) xs ys = refl

pub first-take : (history : List Seen) (lane n : ℕ) → 1 ≤ n
    → lane_at_first lane (take n history) ≡ lane_at_first lane history
first-take history lane zero le = absurd (omega (arith, le))
first-take [] lane (suc n) le = refl
first-take (x ∷ xs) lane (suc n) le = first-only lane x (take n xs) xs

-- of a front that is not empty it is the same whatever follows
pub upto-take : (history : List Seen) (lane n : ℕ) → 1 ≤ n
    → lane_upto history lane (take n history) ≡ lane_in lane (take n history)
upto-take history lane n le =
    ap (λ (l : Halves). halves_run l (of_lane_all lane (take n history))) (sym (first-take history lane n le))

pub upto-append : (history : List Seen) (lane : ℕ) (a b : List Seen)
    → lane_upto history lane (a ++ b) ≡ halves_run (lane_upto history lane a) (of_lane_all lane b)
upto-append history lane a b =
    ap (λ (z : List SeenStep). halves_run (lane_at_first lane history) z) (of-append lane a b)
    ∙ after-append (lane_at_first lane history) (of_lane_all lane a) (of_lane_all lane b)

pub upto-more : (history : List Seen) (lane : ℕ) (a : List Seen) (x : Seen)
    → lane_upto history lane (a ++ x ∷ []) ≡ halves_run (lane_upto history lane a) (of_lane lane x)
upto-more history lane a x =
    upto-append history lane a (x ∷ [])
    ∙ ap (λ (z : List SeenStep). halves_run (lane_upto history lane a) z) (append-nil (of_lane lane x))

pub length-more : (a : List Seen) (x : Seen) → length (a ++ x ∷ []) ≡ length a + 1
length-more a x = length-append a (x ∷ [])

pub split : (spells : List ℕ → Bool) (l : Halves) (a b : List SeenStep) → AreAllowed spells l (a ++ b)
    → AreAllowed spells (halves_run l a) b
split spells l [] b g = g
split spells l (x ∷ xs) b g = split spells (halves_after l x) xs b g.1

-- what lanes allow of a history they allow behind each front of it
pub behind-front : (spells : List ℕ → Bool) (a b : List Seen) (lane : ℕ) → LanesAllow spells (a ++ b)
    → AreAllowed spells (lane_upto (a ++ b) lane a) (of_lane_all lane b)
behind-front spells a b lane allow =
    split spells (lane_at_first lane (a ++ b)) (of_lane_all lane a) (of_lane_all lane b)
    (subst (λ (z : List SeenStep). AreAllowed spells (lane_at_first lane (a ++ b)) z) (of-append lane a b) (allow lane))

module _ {Y : Type 0} (spells : List ℕ → Bool) (which : ℕ → SeenStep → List Y) (lane : ℕ)
    (Same : Halves → Halves → Type 0) (whole : List Seen) where
  -- the history up to the half's next step, that step, and the rest
  pub record Next (done : List Seen) (y : Y) (ys : List Y) : Type 0 where
    pub front : List Seen
    pub step : SeenStep
    pub more : List Seen
    pub is_whole : whole ≡ (front ++ On lane step ∷ []) ++ more
    pub is_next : which (length front) step ≡ y ∷ []
    pub later : half_steps which lane (length (front ++ On lane step ∷ [])) more ≡ ys
    pub same : Same (lane_upto whole lane done) (lane_upto whole lane front)
    pub possible : Allows spells (lane_upto whole lane front) step
    pub after : lane_upto whole lane (front ++ On lane step ∷ []) ≡ halves_after (lane_upto whole lane front) step
    pub rest_possible : AreAllowed spells (lane_upto whole lane (front ++ On lane step ∷ [])) (of_lane_all lane more)

module _ {Y : Type 0} (spells : List ℕ → Bool) (which : ℕ → SeenStep → List Y) (lane : ℕ)
    (Same : Halves → Halves → Type 0) (whole : List Seen)
    (same-refl : (l : Halves) → Same l l) (same-trans : (a b c : Halves) → Same a b → Same b c → Same a c)
    (shape : (at : ℕ) (step : SeenStep) → (which at step ≡ []) ⊎ ((y : Y) × (which at step ≡ y ∷ [])))
    (silent : (l : Halves) (at : ℕ) (step : SeenStep) → which at step ≡ [] → Same l (halves_after l step)) where
  abbrev Nexts : List Seen → Y → List Y → Type 0
  Nexts done y ys = Next spells which lane Same whole done y ys

  own-is : (j : ℕ) (step : SeenStep) → (j == lane) ≡ true → of_lane lane (On j step) ≡ step ∷ []
  own-is j step e = rw e

  other-is : (j : ℕ) (step : SeenStep) → (j == lane) ≡ false → of_lane lane (On j step) ≡ []
  other-is j step e = rw e

  own-half : (at j : ℕ) (step : SeenStep) → (j == lane) ≡ true → half_of which lane at (On j step) ≡ which at step
  own-half at j step e = rw e

  other-half : (at j : ℕ) (step : SeenStep) → (j == lane) ≡ false → half_of which lane at (On j step) ≡ []
  other-half at j step e = rw e

  skipped : (x : Seen) (done : List Seen) (y : Y) (ys : List Y)
      → Same (lane_upto whole lane done) (lane_upto whole lane (done ++ x ∷ [])) → Nexts (done ++ x ∷ []) y ys
      → Nexts done y ys
  skipped x done y ys s n = record {
    front = n.front;
    step = n.step;
    more = n.more;
    is_whole = n.is_whole;
    is_next = n.is_next;
    later = n.later;
    same = same-trans (lane_upto whole lane done) (lane_upto whole lane (done ++ x ∷ [])) (lane_upto whole lane n.front)
        s n.same;
    possible = n.possible;
    after = n.after;
    rest_possible = n.rest_possible;
  }

  unchanged : (x : Seen) (done : List Seen) → of_lane lane x ≡ [] → lane_upto whole lane (done ++ x ∷ [])
      ≡ lane_upto whole lane done
  unchanged x done e = upto-more whole lane done x
      ∙ ap (λ (z : List SeenStep). halves_run (lane_upto whole lane done) z) e

  made : (j : ℕ) (step : SeenStep) (done : List Seen) → (j == lane) ≡ true
      → lane_upto whole lane (done ++ On j step ∷ []) ≡ halves_after (lane_upto whole lane done) step
  made j step done e = upto-more whole lane done (On j step)
      ∙ ap (λ (z : List SeenStep). halves_run (lane_upto whole lane done) z) (own-is j step e)

  heads : (a b : Y) (cs ds : List Y) → a ∷ cs ≡ b ∷ ds → (a ≡ b) × (cs ≡ ds)
  heads a b cs ds e = (cc, cc)

  step-of : (j : ℕ) (step : SeenStep) (xs done : List Seen) (y : Y) (ys : List Y) → whole ≡ done ++ On j step ∷ xs
      → half_steps which lane (length done) (On j step ∷ xs) ≡ y ∷ ys
      → AreAllowed spells (lane_upto whole lane done) (of_lane_all lane (On j step ∷ xs))
      → (half_steps which lane (length done + 1) xs ≡ y ∷ ys → Nexts (done ++ On j step ∷ []) y ys)
      → Nexts done y ys
  step-of j step xs done y ys w e g rec_ = by_lane (j == lane) refl
    where
      found : (a : Y) → (j == lane) ≡ true → which (length done) step ≡ a ∷ [] → Nexts done y ys
      found a t i =
          let jl : j ≡ lane = eqb-true j lane t in
          let h : (a ≡ y) × (half_steps which lane (length done + 1) xs ≡ ys) =
          heads a y _ ys (subst (λ (z : List Y). z ++ half_steps which lane (length done + 1) xs ≡ y ∷ ys)
          (own-half (length done) j step t ∙ i) e) in
          let p : AreAllowed spells (lane_upto whole lane done) (step ∷ of_lane_all lane xs) =
          subst (λ (z : List SeenStep). AreAllowed spells (lane_upto whole lane done) (z ++ of_lane_all lane xs))
          (own-is j step t) g in
          let af : lane_upto whole lane (done ++ On lane step ∷ [])
          ≡ halves_after (lane_upto whole lane done) step =
          subst (λ (z : ℕ). lane_upto whole lane (done ++ On z step ∷ [])
          ≡ halves_after (lane_upto whole lane done) step) jl (made j step done t) in
          record {
            front = done;
            step = step;
            more = xs;
            is_whole = subst (λ (z : ℕ). whole ≡ done ++ On z step ∷ xs) jl w
                ∙ sym (append_assoc done (On lane step ∷ []) xs);
            is_next = i ∙ ap (λ (z : Y). z ∷ []) h.0;
            later = ap (λ (n : ℕ). half_steps which lane n xs) (length-more done (On lane step)) ∙ h.1;
            same = same-refl (lane_upto whole lane done);
            possible = p.0;
            after = af;
            rest_possible = subst (λ (l : Halves). AreAllowed spells l (of_lane_all lane xs)) (sym af) p.1;
          }

      passes : (j == lane) ≡ true → which (length done) step ≡ [] → Nexts done y ys
      passes t i =
          skipped (On j step) done y ys
          (subst (λ (l : Halves). Same (lane_upto whole lane done) l) (sym (made j step done t))
          (silent (lane_upto whole lane done) (length done) step i))
          (rec_ (subst (λ (z : List Y). z ++ half_steps which lane (length done + 1) xs ≡ y ∷ ys)
          (own-half (length done) j step t ∙ i) e))

      by_lane : (b : Bool) → (j == lane) ≡ b → Nexts done y ys
      by_lane true t = elim (shape (length done) step) [ inl n ↦ passes t n | inr n ↦ found n.0 t n.1 ]
      by_lane false t =
          skipped (On j step) done y ys
          (subst (λ (l : Halves). Same (lane_upto whole lane done) l)
          (sym (unchanged (On j step) done (other-is j step t))) (same-refl (lane_upto whole lane done)))
          (rec_ (subst (λ (z : List Y). z ++ half_steps which lane (length done + 1) xs ≡ y ∷ ys)
          (other-half (length done) j step t) e))

  further : (x : Seen) (xs done : List Seen) → AreAllowed spells (lane_upto whole lane done) (of_lane_all lane (x ∷ xs))
      → AreAllowed spells (lane_upto whole lane (done ++ x ∷ [])) (of_lane_all lane xs)
  further x xs done g = subst (λ (l : Halves). AreAllowed spells l (of_lane_all lane xs))
      (sym (upto-more whole lane done x))
      (split spells (lane_upto whole lane done) (of_lane lane x) (of_lane_all lane xs) g)

  pub next : (rest done : List Seen) (y : Y) (ys : List Y) → whole ≡ done ++ rest
      → half_steps which lane (length done) rest ≡ y ∷ ys
      → AreAllowed spells (lane_upto whole lane done) (of_lane_all lane rest) → Nexts done y ys
  next [] done y ys w e g = absurd (let c : [] ≡ y ∷ ys = e in cc)
  next (On j step ∷ xs) done y ys w e g =
      step-of j step xs done y ys w e g
      (λ h. next xs (done ++ On j step ∷ []) y ys (w ∙ sym (append_assoc done (On j step ∷ []) xs))
      (ap (λ (n : ℕ). half_steps which lane n xs) (length-more done (On j step)) ∙ h)
      (further (On j step) xs done g))
  next (Elsewhere ∷ xs) done y ys w e g =
      skipped Elsewhere done y ys
      (subst (λ (l : Halves). Same (lane_upto whole lane done) l) (sym (unchanged Elsewhere done refl))
      (same-refl (lane_upto whole lane done)))
      (next xs (done ++ Elsewhere ∷ []) y ys (w ∙ sym (append_assoc done (Elsewhere ∷ []) xs))
      (ap (λ (n : ℕ). half_steps which lane n xs) (length-more done Elsewhere) ∙ e) (further Elsewhere xs done g))
  next (Begins count lanes ∷ xs) done y ys w e g =
      skipped (Begins count lanes) done y ys
      (subst (λ (l : Halves). Same (lane_upto whole lane done) l) (sym (unchanged (Begins count lanes) done refl))
      (same-refl (lane_upto whole lane done)))
      (next xs (done ++ Begins count lanes ∷ []) y ys (w ∙ sym (append_assoc done (Begins count lanes ∷ []) xs))
      (ap (λ (n : ℕ). half_steps which lane n xs) (length-more done (Begins count lanes)) ∙ e)
      (further (Begins count lanes) xs done g))
