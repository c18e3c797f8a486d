-- Lists that cover a history's steps have them in its order.
use Rattle.std.proofs.Common.{◌≡◌, ◌⊎◌, ◌<◌, ◌≤◌, ℕ, ◌+◌, ◌==◌, Bool, true, false, if◌then◌else◌, Option, Some}
use Rattle.std.proofs.Common.{slice_get, List, [], ◌∷◌, ◌++◌, map, length, refl, sym, ◌∙◌, ap, subst, arith, inl, inr}
use Rattle.std.proofs.Common.{append_assoc, append-nil}
use Rattle.std.proofs.lemmas.List.{length-append}
use Rattle.std.proofs.lemmas.Option.{slice_get_past, slice_get-get_or}
use Rattle.std.proofs.Math.Seq.{get_or-append_seam}
use Rattle.std.proofs.lemmas.Bool.{eqb-true, eqb-false}
use Rattle.mta_transfer_rules.specs.Units.{LaneUnit}
use Rattle.mta_transfer_rules.specs.Sending as s
use Rattle.mta_transfer_rules.specs.Sending.{SendEvent}
use Rattle.mta_transfer_rules.specs.Lanes.{Seen, On, Elsewhere, Begins}
use Rattle.mta_transfer_laws.specs.History.{half_of, half_steps}
use Rattle.mta_transfer_laws.specs.Sendings.{HalfStep, Binds, Makes, sending_step, step_in, steps_in, StepsInOrder}
use Rattle.mta_transfer_laws.specs.Sendings.{Ends_here, Given_up, Then}
use Rattle.mta_transfer_laws.specs.Sessions.{SessionList, SessionEvent, sending_event, sending_events, sending_list}
use Rattle.mta_transfer_laws.specs.Sessions as x
use Rattle.mta_transfer_laws.specs.Covering.{Placed, placed_at, placed_events, placed_lists, step_here, step_at}
use Rattle.mta_transfer_laws.specs.Covering.{EachStands, Rises, HasPosition, IsBinds, NoneGoesOn, CoveringKeepsOrder}
use Rattle.mta_transfer_laws.proofs.Histories.{length-more}
use Rattle.mta_transfer_laws.proofs.Schedule.{shape}

pub heads : (a b : Placed) (cs ds : List Placed) → a ∷ cs ≡ b ∷ ds → (a ≡ b) × (cs ≡ ds)
heads a b cs ds e = (cc, cc)

abbrev pub NextBinds : List Placed → Type 0
NextBinds [] = Unit {0}
NextBinds (x ∷ xs) = IsBinds x.step

pub data Merged : List Placed → List HalfStep → Type 0 where
  Nothing : Merged [] []
  Next : {xs : List Placed} {ys : List HalfStep} (x : Placed) → Merged xs ys → Merged (x ∷ xs) (x.step ∷ ys)
  Free : {xs : List Placed} {ys : List HalfStep} → NextBinds xs → Merged xs ys → Merged xs (Makes s.Abandon ∷ ys)

-- One step after another of the history -----------------------------------------------------------------------

behind-it : (p : ℕ) (x : Placed) (xs : List Placed) → x.position < p → NoneGoesOn p (x ∷ xs) → NoneGoesOn p xs
behind-it p x xs lt g = g.0 lt

before-it : (p : ℕ) (x : Placed) (xs : List Placed) → p ≤ x.position → NoneGoesOn p (x ∷ xs) → IsBinds x.step
before-it p x xs le g = g.1 le

pub not-there : (n p : ℕ) (xs : List Placed) → Rises n xs → p < n → HasPosition p xs → ⊥
not-there n p [] g lt h = h
not-there n p (x ∷ xs) g lt h = elim h [
  | inl e ↦ omega (arith, e, lt, g.0)
  | inr i ↦ not-there (x.position + 1) p xs g.1
      (omega (arith, lt, g.0)) i
]

pub at-end : (done rest : List Seen) (st : Seen) → slice_get (done ++ st ∷ rest) (length done) ≡ Some st
at-end done rest st =
    slice_get-get_or (done ++ st ∷ rest) (length done) st
    (let e : length (done ++ st ∷ rest) ≡ length done
    + length (st ∷ rest) = length-append done (st ∷ rest) in omega (arith, e))
    ∙ ap (λ (z : Seen). Some z) (get_or-append_seam done st rest st)

abbrev Each : (history : List Seen) (lane from : ℕ) → List Placed → Type 0
Each history lane from xs = (p : ℕ) (y : HalfStep) → from ≤ p → step_at history lane p ≡ y ∷ [] → HasPosition p xs
    ⊎ ((y ≡ Makes s.Abandon) × NoneGoesOn p xs)

half-shape : (lane at : ℕ) (st : Seen) → (half_of sending_step lane at st ≡ [])
    ⊎ ((y : HalfStep) × (half_of sending_step lane at st ≡ y ∷ []))
half-shape lane at Elsewhere = inl refl
half-shape lane at (Begins count lanes) = inl refl
half-shape lane at (On j step) = by_lane (j == lane)
  where
    by_lane : (b : Bool) → ((if b then sending_step at step else []) ≡ [])
        ⊎ ((y : HalfStep) × ((if b then sending_step at step else []) ≡ y ∷ []))
    by_lane true = shape at step
    by_lane false = inl refl

eq-or-lt : (a b : ℕ) → a ≤ b → (a ≡ b) ⊎ (a < b)
eq-or-lt a b le = by_test (a == b) refl
  where
    by_test : (c : Bool) → (a == b) ≡ c → (a ≡ b) ⊎ (a < b)
    by_test true e = inl (eqb-true a b e)
    by_test false e = inr (let ne : a ≡ b → ⊥ = eqb-false a b e in omega (arith, le, ne))

module _ (history : List Seen) (lane : ℕ) where
  each-later : (n : ℕ) (xs : List Placed) → Each history lane n xs → Each history lane (n + 1) xs
  each-later n xs f p y le e = f p y (omega (arith, le)) e

  each-taken : (n : ℕ) (x : Placed) (xs : List Placed) → x.position ≡ n → Each history lane n (x ∷ xs)
      → Each history lane (n + 1) xs
  each-taken n x xs en f p y le e =
      elim (f p y (omega (arith, le)) e) [
        | inl h ↦ elim h [ inl g ↦ absurd (omega (arith, g, en, le)) | inr i ↦ inl i ]
        | inr g ↦ inr (g.0, behind-it p x xs (omega (arith, en, le)) g.1)
      ]

  -- what the history has here
  pub here : (done rest : List Seen) (st : Seen) → history ≡ done ++ st ∷ rest → step_at history lane (length done)
      ≡ half_of sending_step lane (length done) st
  here done rest st w =
      ap (λ (z : Option Seen). step_here lane (length done) z)
      (ap (λ (z : List Seen). slice_get z (length done)) w ∙ at-end done rest st)

  pub nothing-behind : (xs : List Placed) → EachStands history lane xs → Rises (length history) xs → Merged xs []
  nothing-behind [] g r = Nothing
  nothing-behind (x ∷ xs) g r =
      absurd (let e : [] ≡ x.step ∷ [] =
      sym (ap (λ (z : Option Seen). step_here lane x.position z) (slice_get_past history x.position r.0))
      ∙ g.0 in cc)

  -- the half's step here, if it is one, is the next of the lists or stands between them
  one : (n : ℕ) (xs : List Placed) (hs ys : List HalfStep) → EachStands history lane xs → Rises n xs
      → Each history lane n xs → step_at history lane n ≡ hs
      → ((hs ≡ []) ⊎ ((y : HalfStep) × (hs ≡ y ∷ [])))
      → ((zs : List Placed) → EachStands history lane zs → Rises (n + 1) zs → Each history lane (n + 1) zs
      → Merged zs ys) → Merged xs (hs ++ ys)
  one n [] hs ys g r f e sh k = elim sh [
    | inl em ↦ subst (λ (z : List HalfStep). Merged [] (z ++ ys)) (sym em) (k [] tt tt (each-later n [] f))
    | inr h ↦ (let d : ⊥ ⊎ ((h.0 ≡ Makes s.Abandon) × NoneGoesOn n []) = f n h.0 (omega arith) (e ∙ h.1) in
        subst (λ (z : List HalfStep). Merged [] (z ++ ys)) (sym h.1)
        (elim d [
          | inl b ↦ absurd b
          | inr i ↦ subst (λ (z : HalfStep). Merged [] (z ∷ ys)) (sym i.0)
              (Free tt (k [] tt tt (each-later n [] f)))
        ]))
  ]
  one n (x ∷ xs) hs ys g r f e sh k = by_place (eq-or-lt n x.position r.0)
    where
      by_place : (n ≡ x.position) ⊎ (n < x.position) → Merged (x ∷ xs) (hs ++ ys)
      by_place (inl en) =
          let is : hs ≡ x.step ∷ [] = sym e ∙ ap (λ (z : ℕ). step_at history lane z) en ∙ g.0 in
          let rr : Rises (n + 1) xs = subst (λ (z : ℕ). Rises (z + 1) xs) (sym en) r.1 in
          subst (λ (z : List HalfStep). Merged (x ∷ xs) (z ++ ys)) (sym is)
          (Next x (k xs g.1 rr (each-taken n x xs (sym en) f)))
      by_place (inr lt) =
          let rest : Merged (x ∷ xs) ys = k (x ∷ xs) g (omega (arith, lt), r.1) (each-later n (x ∷ xs) f) in
          elim sh [
            | inl em ↦ subst (λ (z : List HalfStep). Merged (x ∷ xs) (z ++ ys)) (sym em) rest
            | inr h ↦ subst (λ (z : List HalfStep). Merged (x ∷ xs) (z ++ ys)) (sym h.1)
                (elim (f n h.0 (omega arith) (e ∙ h.1)) [
                  | inl i ↦ absurd (not-there (n + 1) n (x ∷ xs) (omega (arith, lt), r.1) (omega arith) i)
                  | inr i ↦ subst (λ (z : HalfStep). Merged (x ∷ xs) (z ∷ ys)) (sym i.0)
                      (Free (before-it n x xs (omega (arith, lt)) i.1) rest)
                ])
          ]

  merged : (rest done : List Seen) (xs : List Placed) → history ≡ done ++ rest → EachStands history lane xs
      → Rises (length done) xs → Each history lane (length done) xs
      → Merged xs (half_steps sending_step lane (length done) rest)
  merged [] done xs w g r f = nothing-behind xs g
      (subst (λ (z : List Seen). Rises (length z) xs) (sym (w ∙ append-nil done)) r)
  merged (st ∷ rs) done xs w g r f =
      one (length done) xs (half_of sending_step lane (length done) st)
      (half_steps sending_step lane (length done + 1) rs) g r f (here done rs st w)
      (half-shape lane (length done) st)
      (λ zs gz rz fz.
      subst (λ (z : ℕ). Merged zs (half_steps sending_step lane z rs)) (length-more done st)
      (merged rs (done ++ st ∷ []) zs (w ∙ sym (append_assoc done (st ∷ []) rs)) gz
      (subst (λ (z : ℕ). Rises z zs) (sym (length-more done st)) rz)
      (subst (λ (z : ℕ). Each history lane z zs) (sym (length-more done st)) fz)))

-- The lists again -------------------------------------------------------------------------------------------------

abbrev Going : List Placed → Type 0
Going [] = Unit {0}
Going (x ∷ xs) = (IsBinds x.step → ⊥) × Going xs

pub steps_of : List Placed → List HalfStep
steps_of [] = []
steps_of (x ∷ xs) = x.step ∷ steps_of xs

going-at : (p : ℕ) (es : List SendEvent) (xs : List Placed) → Going xs → Going (placed_at p es ++ xs)
going-at p [] xs g = g
going-at p (s.Made step ∷ es) xs g = ((λ b. b), going-at p es xs g)
going-at p (s.New_link b ∷ es) xs g = going-at p es xs g
going-at p (s.Put y ∷ es) xs g = going-at p es xs g
going-at p (s.Got y ∷ es) xs g = going-at p es xs g

going : (lane : ℕ) (es : List SessionEvent) → Going (placed_events lane es)
going lane [] = tt
going lane (x.Made p j step ∷ es) = going-at p (sending_event lane (x.Made p j step)) (placed_events lane es)
    (going lane es)
going lane (x.Got y ∷ es) = going lane es
going lane (x.Refused y ∷ es) = going lane es
going lane (x.Put y ∷ es) = going lane es
going lane (x.Looked n look ∷ es) = going lane es

steps-at : (p : ℕ) (es : List SendEvent) (xs : List Placed) → steps_of (placed_at p es ++ xs) ≡ steps_in es
    ++ steps_of xs
unfolding steps_of
steps-at p [] xs = refl
steps-at p (s.Made step ∷ es) xs = ap (λ (z : List HalfStep). Makes step ∷ z) (steps-at p es xs)
steps-at p (s.New_link b ∷ es) xs = steps-at p es xs
steps-at p (s.Put y ∷ es) xs = steps-at p es xs
steps-at p (s.Got y ∷ es) xs = steps-at p es xs

steps-append : (es fs : List SendEvent) → steps_in (es ++ fs) ≡ steps_in es ++ steps_in fs
steps-append [] fs = refl
steps-append (e ∷ es) fs = ap (λ (z : List HalfStep). step_in e ++ z) (steps-append es fs)
    ∙ sym (append_assoc (step_in e) (steps_in es) (steps_in fs))

no-steps : (es : List LaneUnit) → (steps_in (x.gots_of es) ≡ []) × (steps_in (x.puts_of es) ≡ [])
no-steps [] = (refl, refl)
no-steps (y ∷ es) = no-steps es

placed-steps : (lane : ℕ) (es : List SessionEvent) → steps_of (placed_events lane es)
    ≡ steps_in (sending_events lane es)
unfolding steps_of
placed-steps lane [] = refl
placed-steps lane (x.Made p j step ∷ es) =
    steps-at p (sending_event lane (x.Made p j step)) (placed_events lane es)
    ∙ ap (λ (z : List HalfStep). steps_in (sending_event lane (x.Made p j step)) ++ z) (placed-steps lane es)
    ∙ sym (steps-append (sending_event lane (x.Made p j step)) (sending_events lane es))
placed-steps lane (x.Got y ∷ es) =
    placed-steps lane es ∙ sym (steps-append (x.gots_of (x.answer_unit y)) (sending_events lane es)
    ∙ ap (λ (z : List HalfStep). z ++ steps_in (sending_events lane es)) (no-steps (x.answer_unit y)).0)
placed-steps lane (x.Refused y ∷ es) = placed-steps lane es
placed-steps lane (x.Put y ∷ es) =
    placed-steps lane es ∙ sym (steps-append (x.puts_of (x.transfer_unit y)) (sending_events lane es)
    ∙ ap (λ (z : List HalfStep). z ++ steps_in (sending_events lane es)) (no-steps (x.transfer_unit y)).1)
placed-steps lane (x.Looked n look ∷ es) = placed-steps lane es

module _ (lane : ℕ) where
  abbrev pub Ordered : List Placed → List SessionList → List HalfStep → Type 0
  Ordered cs ls ys = (zs : List HalfStep) × StepsInOrder (map (sending_list lane) ls) zs × (ys ≡ steps_of cs ++ zs)

  pub order : (cs : List Placed) (ls : List SessionList) (xs : List Placed) (ys : List HalfStep) → Merged xs ys
      → Going cs → xs ≡ cs ++ placed_lists lane ls → Ordered cs ls ys
  unfolding steps_of
  order [] [] xs ys Nothing g e = ([], Ends_here, refl)
  order [] (l ∷ ls) xs ys Nothing g e = absurd
      (let c : [] ≡ record { position = l.at; step = Binds l.at }
      ∷ (placed_events lane l.events ++ placed_lists lane ls) = e in cc)
  order (c ∷ cs) ls xs ys Nothing g e = absurd (let d : [] ≡ c ∷ (cs ++ placed_lists lane ls) = e in cc)
  order [] ls xs ys (Free {xs = us} {ys = vs} nb m) g e =
      let o : Ordered [] ls vs = order [] ls us vs m g e in
      (Makes s.Abandon ∷ o.0, Given_up o.1, ap (λ (z : List HalfStep). Makes s.Abandon ∷ z) o.2)
  order (c ∷ cs) ls xs ys (Free {xs = us} {ys = vs} nb m) g e =
      absurd (g.0 (subst (λ (z : List Placed). NextBinds z) e nb))
  order [] [] xs ys (Next {xs = us} {ys = vs} y m) g e = absurd (let d : y ∷ us ≡ [] = e in cc)
  order [] (l ∷ ls) xs ys (Next {xs = us} {ys = vs} y m) g e =
      let d : y ∷ us ≡ record { position = l.at; step = Binds l.at }
      ∷ (placed_events lane l.events ++ placed_lists lane ls) = e in
      let h : (y ≡ record { position = l.at; step = Binds l.at })
      × (us ≡ placed_events lane l.events ++ placed_lists lane ls) = heads y _ us _ d in
      let o : Ordered (placed_events lane l.events) ls vs =
      order (placed_events lane l.events) ls us vs m (going lane l.events) h.1 in (
        Binds l.at ∷ (steps_in (sending_events lane l.events) ++ o.0),
        Then (sending_list lane l) o.1,
        ap (λ (z : Placed). z.step ∷ vs) h.0
            ∙ ap (λ (z : List HalfStep). Binds l.at ∷ z)
            (o.2 ∙ ap (λ (z : List HalfStep). z ++ o.0) (placed-steps lane l.events)),
      )
  order (c ∷ cs) ls xs ys (Next {xs = us} {ys = vs} y m) g e =
      let h : (y ≡ c) × (us ≡ cs ++ placed_lists lane ls) = heads y c us _ e in
      let o : Ordered cs ls vs = order cs ls us vs m g.1 h.1 in
      (o.0, o.1, ap (λ (z : Placed). z.step ∷ vs) h.0 ∙ ap (λ (z : List HalfStep). c.step ∷ z) o.2)

pub in-order : (lane : ℕ) (ls : List SessionList) (ys : List HalfStep) → Merged (placed_lists lane ls) ys
    → StepsInOrder (map (sending_list lane) ls) ys
unfolding steps_of
in-order lane ls ys m =
    let o : Ordered lane [] ls ys = order lane [] ls (placed_lists lane ls) ys m tt refl in
    subst (λ (z : List HalfStep). StepsInOrder (map (sending_list lane) ls) z) (sym o.2) o.1

pub keeps-order : CoveringKeepsOrder
keeps-order before added lane ls g =
    in-order lane ls (half_steps sending_step lane (length before) added)
    (merged (before ++ added) lane added before (placed_lists lane ls) refl g.stand g.rise g.each)
