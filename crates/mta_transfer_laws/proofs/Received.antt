-- Lists of one station that own the steps of a receiving half have them in the history's order.
use Rattle.std.proofs.Common.{◌≡◌, ◌⊎◌, ◌<◌, ◌≤◌, ℕ, ◌+◌, ◌==◌, nat_lt, Bool, true, false, if◌then◌else◌, Option}
use Rattle.std.proofs.Common.{slice_get, List, [], ◌∷◌, ◌++◌, map, length, refl, sym, ◌∙◌, ap, subst, arith, inl, inr}
use Rattle.std.proofs.Common.{append_assoc, append-nil}
use Rattle.std.proofs.lemmas.Option.{slice_get_past}
use Rattle.std.proofs.lemmas.Bool.{ltb-true, ltb-false}
use Rattle.mta_transfer_rules.specs.Units.{LaneUnit}
use Rattle.mta_transfer_rules.specs.Receiving as r
use Rattle.mta_transfer_rules.specs.Receiving.{RecvEvent}
use Rattle.mta_transfer_rules.specs.Lanes.{SeenStep, Seen, On, Elsewhere, Begins}
use Rattle.mta_transfer_laws.specs.History.{half_of, half_steps}
use Rattle.mta_transfer_rules.specs.Lanes as h
use Rattle.mta_transfer_laws.specs.Receivings.{HalfStep, Binds, Makes, receiving_step, step_in, steps_in, StepsInOrder}
use Rattle.mta_transfer_laws.specs.Receivings.{Ends_here, Then}
use Rattle.mta_transfer_laws.specs.Sessions.{SessionList, SessionEvent, StepsStand, receiving_event, receiving_events}
use Rattle.mta_transfer_laws.specs.Sessions.{receiving_step_of, receiving_list}
use Rattle.mta_transfer_laws.specs.Sessions as x
use Rattle.mta_transfer_laws.specs.ReceivingOrder.{Placed, placed_at, placed_events, placed_lists, step_here, step_at}
use Rattle.mta_transfer_laws.specs.ReceivingOrder.{Rises, HasPosition, EachBinds, OwningKeepsReceivingOrder}
use Rattle.mta_transfer_laws.proofs.Histories.{length-more}
use Rattle.mta_transfer_laws.proofs.Cover.{at-end}
use Rattle.mta_transfer_laws.proofs.Intake.{shape}

lt-or-le : (p b : ℕ) → (p < b) ⊎ (b ≤ p)
lt-or-le p b = by_test (nat_lt p b) refl
  where
    by_test : (c : Bool) → nat_lt p b ≡ c → (p < b) ⊎ (b ≤ p)
    by_test true e = inl (ltb-true p b e)
    by_test false e = inr (ltb-false p b e)

steps_of : List Placed → List HalfStep
steps_of [] = []
steps_of (x ∷ xs) = x.step ∷ steps_of xs

abbrev EachStands : (history : List Seen) → (lane : ℕ) → List Placed → Type 0
EachStands history lane [] = Unit {0}
EachStands history lane (y ∷ ys) = (step_at history lane y.position ≡ y.step ∷ []) × EachStands history lane ys

not-there : (n p : ℕ) (xs : List Placed) → Rises n xs → p < n → HasPosition p xs → ⊥
not-there n p [] g lt h = h
not-there n p (y ∷ ys) g lt h = elim h [
  | inl e ↦ omega (arith, e, lt, g.0)
  | inr i ↦ not-there (y.position + 1) p ys g.1
      (omega (arith, lt, g.0)) i
]

half-shape : (lane at : ℕ) (st : Seen) → (half_of receiving_step lane at st ≡ [])
    ⊎ ((y : HalfStep) × (half_of receiving_step lane at st ≡ y ∷ []))
half-shape lane at Elsewhere = inl refl
half-shape lane at (Begins count lanes) = inl refl
half-shape lane at (On j step) = by_lane (j == lane)
  where
    by_lane : (b : Bool) → ((if b then receiving_step at step else []) ≡ [])
        ⊎ ((y : HalfStep) × ((if b then receiving_step at step else []) ≡ y ∷ []))
    by_lane true = shape at step
    by_lane false = inl refl

module _ (history : List Seen) (lane : ℕ) where
  abbrev Owned : ℕ → List Placed → Type 0
  Owned n xs = (p : ℕ) (y : HalfStep) → n ≤ p → step_at history lane p ≡ y ∷ [] → HasPosition p xs

  here : (done rest : List Seen) (st : Seen) → history ≡ done ++ st ∷ rest → step_at history lane (length done)
      ≡ half_of receiving_step lane (length done) st
  here done rest st w = ap (λ (z : Option Seen). step_here lane (length done) z)
      (ap (λ (z : List Seen). slice_get z (length done)) w ∙ at-end done rest st)

  nothing-behind : (xs : List Placed) → EachStands history lane xs → Rises (length history) xs → xs ≡ []
  nothing-behind [] g k = refl
  nothing-behind (y ∷ ys) g k =
      absurd (let e : [] ≡ y.step ∷ [] =
      sym (ap (λ (z : Option Seen). step_here lane y.position z) (slice_get_past history y.position k.0))
      ∙ g.0 in cc)

  one : (n : ℕ) (xs : List Placed) (hs ys : List HalfStep) → EachStands history lane xs → Rises n xs → Owned n xs
      → step_at history lane n ≡ hs
      → ((hs ≡ []) ⊎ ((y : HalfStep) × (hs ≡ y ∷ [])))
      → ((zs : List Placed) → EachStands history lane zs → Rises (n + 1) zs → Owned (n + 1) zs → ys ≡ steps_of zs) → hs
      ++ ys ≡ steps_of xs
  unfolding steps_of
  one n [] hs ys g k o e sh rest = elim sh [
    | inl em ↦ ap (λ (z : List HalfStep). z ++ ys) em ∙ rest [] tt tt (λ p y le i. o p y (omega (arith, le)) i)
    | inr c ↦ absurd (o n c.0 (omega arith) (e ∙ c.1))
  ]
  one n (v ∷ vs) hs ys g k o e sh rest = by_place (lt-or-le n v.position)
    where
      by_place : (n < v.position) ⊎ (v.position ≤ n) → hs ++ ys ≡ v.step ∷ steps_of vs
      by_place (inl lt) =
          let ri : Rises (n + 1) (v ∷ vs) = (omega (arith, lt), k.1) in
          elim sh [
            | inl em ↦ ap (λ (z : List HalfStep). z ++ ys) em
                ∙ rest (v ∷ vs) g ri (λ p y le i. o p y (omega (arith, le)) i)
            | inr c ↦ absurd (not-there (n + 1) n (v ∷ vs) ri (omega arith) (o n c.0 (omega arith) (e ∙ c.1)))
          ]
      by_place (inr le) =
          let np : n ≡ v.position = (let ge : n ≤ v.position = k.0 in omega (arith, le, ge)) in
          let is : hs ≡ v.step ∷ [] = sym e ∙ ap (λ (z : ℕ). step_at history lane z) np ∙ g.0 in
          ap (λ (z : List HalfStep). z ++ ys) is
          ∙ ap (λ (z : List HalfStep). v.step ∷ z) (rest vs g.1 (subst (λ (z : ℕ). Rises (z + 1) vs) (sym np) k.1)
          (λ p y le i. elim (o p y (omega (arith, le)) i) [ inl q ↦ absurd (omega (arith, q, np, le)) | inr q ↦ q ]))

  walk : (rest done : List Seen) (xs : List Placed) → history ≡ done ++ rest → EachStands history lane xs
      → Rises (length done) xs → Owned (length done) xs
      → half_steps receiving_step lane (length done) rest ≡ steps_of xs
  unfolding steps_of
  walk [] done xs w g k o = sym (ap steps_of
      (nothing-behind xs g (subst (λ (z : List Seen). Rises (length z) xs) (sym (w ∙ append-nil done)) k)))
  walk (st ∷ rs) done xs w g k o =
      one (length done) xs (half_of receiving_step lane (length done) st)
      (half_steps receiving_step lane (length done + 1) rs) g k o (here done rs st w)
      (half-shape lane (length done) st)
      (λ zs gz kz oz.
      ap (λ (z : ℕ). half_steps receiving_step lane z rs) (sym (length-more done st))
      ∙ walk rs (done ++ st ∷ []) zs (w ∙ sym (append_assoc done (st ∷ []) rs)) gz
      (subst (λ (z : ℕ). Rises z zs) (sym (length-more done st)) kz)
      (subst (λ (z : ℕ). Owned z zs) (sym (length-more done st)) oz))

  -- all lists stand
  stands-of : (es : List SessionEvent) (xs : List Placed) → StepsStand history es → EachStands history lane xs
      → EachStands history lane (placed_events lane es ++ xs)
  stands-of [] xs g k = k
  stands-of (x.Got u ∷ es) xs g k = stands-of es xs g k
  stands-of (x.Put u ∷ es) xs g k = stands-of es xs g k
  stands-of (x.Refused u ∷ es) xs g k = stands-of es xs g k
  stands-of (x.Looked n look ∷ es) xs g k = stands-of es xs g.1 k
  stands-of (x.Made p j step ∷ es) xs g k =
      subst (λ (v : List Placed). EachStands history lane v)
      (sym (append_assoc (placed_at p (receiving_event lane (x.Made p j step))) (placed_events lane es) xs))
      (by_step (j == lane) refl (stands-of es xs g.1 k))
    where
      of-step : (st : SeenStep) (vs : List Placed) → step_at history lane p ≡ receiving_step p st
          → EachStands history lane vs → EachStands history lane (placed_at p (receiving_step_of st) ++ vs)
      of-step (h.Secure a b n o) vs e q = (e, q)
      of-step (h.Complete a b n o) vs e q = (e, q)
      of-step (h.Drop a b) vs e q = (e, q)
      of-step _ vs e q = q

      by_step : (b : Bool) → (j == lane) ≡ b → EachStands history lane (placed_events lane es ++ xs)
          → EachStands history lane (placed_at p (if b then receiving_step_of step else [])
          ++ (placed_events lane es ++ xs))
      by_step false e q = q
      by_step true e q =
          of-step step (placed_events lane es ++ xs)
          (ap (λ (v : Option Seen). step_here lane p v) g.0
          ∙ ap (λ (b : Bool). if b then receiving_step p step else []) e) q

  lists-stand : (ls : List SessionList) → EachBinds history lane ls → EachStands history lane (placed_lists lane ls)
  lists-stand [] b = tt
  lists-stand (k ∷ ks) b = (b.0, stands-of k.events (placed_lists lane ks) b.1 (lists-stand ks b.2))

-- The lists again -------------------------------------------------------------------------------------------------

steps-at : (p : ℕ) (es : List RecvEvent) (xs : List Placed) → steps_of (placed_at p es ++ xs) ≡ steps_in es
    ++ steps_of xs
unfolding steps_of
steps-at p [] xs = refl
steps-at p (r.Made step ∷ es) xs = ap (λ (z : List HalfStep). Makes step ∷ z) (steps-at p es xs)
steps-at p (r.New_link ∷ es) xs = steps-at p es xs
steps-at p (r.Took y ∷ es) xs = steps-at p es xs
steps-at p (r.Put y ∷ es) xs = steps-at p es xs
steps-at p (r.Finds k n piece ∷ es) xs = steps-at p es xs

steps-append : (es fs : List RecvEvent) → steps_in (es ++ fs) ≡ steps_in es ++ steps_in fs
steps-append [] fs = refl
steps-append (e ∷ es) fs = ap (λ (z : List HalfStep). step_in e ++ z) (steps-append es fs)
    ∙ sym (append_assoc (step_in e) (steps_in es) (steps_in fs))

no-steps : (us : List LaneUnit) → (steps_in (x.took_of us) ≡ []) × (steps_in (x.answers_of us) ≡ [])
no-steps [] = (refl, refl)
no-steps (y ∷ us) = no-steps us

drops : (as_ bs : List RecvEvent) (cs : List HalfStep) → steps_in as_ ≡ [] → steps_in bs ++ cs ≡ steps_in (as_ ++ bs)
    ++ cs
drops as_ bs cs e = sym (ap (λ (z : List HalfStep). z ++ cs)
    (steps-append as_ bs ∙ ap (λ (z : List HalfStep). z ++ steps_in bs) e))

placed-steps : (lane : ℕ) (es : List SessionEvent) (xs : List Placed) → steps_of (placed_events lane es ++ xs)
    ≡ steps_in (receiving_events lane es) ++ steps_of xs
unfolding steps_of
placed-steps lane [] xs = refl
placed-steps lane (x.Made p j step ∷ es) xs =
    ap steps_of (append_assoc (placed_at p (receiving_event lane (x.Made p j step))) (placed_events lane es) xs)
    ∙ steps-at p (receiving_event lane (x.Made p j step)) (placed_events lane es ++ xs)
    ∙ ap (λ (z : List HalfStep). steps_in (receiving_event lane (x.Made p j step)) ++ z) (placed-steps lane es xs)
    ∙ sym (append_assoc (steps_in (receiving_event lane (x.Made p j step))) (steps_in (receiving_events lane es))
    (steps_of xs))
    ∙ sym (ap (λ (z : List HalfStep). z ++ steps_of xs)
    (steps-append (receiving_event lane (x.Made p j step)) (receiving_events lane es)))
placed-steps lane (x.Got u ∷ es) xs = placed-steps lane es xs
    ∙ drops (x.took_of (x.transfer_unit u)) (receiving_events lane es) (steps_of xs) (no-steps (x.transfer_unit u)).0
placed-steps lane (x.Put u ∷ es) xs = placed-steps lane es xs
    ∙ drops (x.answers_of (x.answer_unit u)) (receiving_events lane es) (steps_of xs) (no-steps (x.answer_unit u)).1
placed-steps lane (x.Refused u ∷ es) xs = placed-steps lane es xs
placed-steps lane (x.Looked n (x.Finds a b c) ∷ es) xs = placed-steps lane es xs
placed-steps lane (x.Looked n x.At_sending ∷ es) xs = placed-steps lane es xs
placed-steps lane (x.Looked n x.No_batch ∷ es) xs = placed-steps lane es xs
placed-steps lane (x.Looked n x.Elsewhere ∷ es) xs = placed-steps lane es xs

in-order : (lane : ℕ) (ls : List SessionList)
    → StepsInOrder (map (receiving_list lane) ls) (steps_of (placed_lists lane ls))
unfolding steps_of
in-order lane [] = Ends_here
in-order lane (l ∷ ls) =
    subst (λ (z : List HalfStep). StepsInOrder (map (receiving_list lane) (l ∷ ls)) (Binds l.at ∷ z))
    (sym (placed-steps lane l.events (placed_lists lane ls)))
    (Then (receiving_list lane l) (in-order lane ls))

pub keeps-order : OwningKeepsReceivingOrder
keeps-order before added lane ls g =
    subst (λ (z : List HalfStep). StepsInOrder (map (receiving_list lane) ls) z)
    (sym (walk (before ++ added) lane added before (placed_lists lane ls) refl
    (lists-stand (before ++ added) lane ls g.binds) g.rise g.owned)) (in-order lane ls)
