-- What stays of a lane's sending half, whoever makes steps.
use Rattle.std.proofs.Common.{◌≡◌, ◌<◌, ◌≤◌, ℕ, zero, suc, ◌+◌, ◌-◌, ◌==◌, if◌then◌else◌, Bool, true, false}
use Rattle.std.proofs.Common.{Some, None, slice_get, List, [], ◌∷◌, ◌++◌, length, take, refl, sym, ap, subst, ◌∙◌}
use Rattle.std.proofs.Common.{arith, get_or}
use Rattle.std.proofs.lemmas.Option.{slice_get_within, slice_get-get_or}
use Rattle.std.proofs.lemmas.Bool.{eqb-true, ne_eqb, eq-eqb}
use Rattle.mta_lane_send.specs.declared.state.SendState.{SendState}
use Rattle.mta_lane_send.specs.declared.state.SendState.TheVariants.{Idle, Sending, Ending, Dropping}
use Rattle.mta_lane_send.specs.Half.{goes_on, is_sending, is_ending, is_live, last_of, confirmed_at}
use Rattle.mta_transfer_rules.specs.Lanes as h
use Rattle.mta_transfer_rules.specs.Lanes.{Halves, SeenStep, Seen, On, Elsewhere, Begins, Allows, AreAllowed}
use Rattle.mta_transfer_rules.specs.Lanes.{halves_after}
use Rattle.mta_transfer_rules.specs.Lanes.{of_lane, of_lane_all, halves_run, lane_at_first, LanesAllow}
use Rattle.mta_transfer_laws.specs.History.{lane_upto}
use Rattle.mta_transfer_laws.specs.Sessions.{IsKept}
use Rattle.mta_transfer_laws.proofs.Histories.{of-append, upto-more, split}
use Rattle.mta_session_list_laws.proofs.Found.{never}

-- ---- a lane comes to drop an activity by its Abandon alone

abbrev IsDropping : (k : ℕ) → Halves → Type 0
IsDropping k l = l.state ≡ Dropping k

not_dropping : (k : ℕ) (x : SendState) → (x ≡ Dropping k → ⊥) → (n : ℕ) → confirmed_at x n ≡ Dropping k → ⊥
not_dropping k (Dropping j) not_so n e = not_so e
not_dropping k any1 not_so n e = cc

dropped_by : (j k : ℕ) → Dropping j ≡ Dropping k → j ≡ k
dropped_by j k e = cc

undropped : (k : ℕ) (l : Halves) (step : SeenStep) → (step ≡ h.Abandon k → ⊥) → (IsDropping k l → ⊥)
    → IsDropping k (halves_after l step) → ⊥
undropped k l (h.Start g j octets) other not_so e = cc
undropped k l (h.Confirm g j n) other not_so e = not_dropping k l.state not_so n e
undropped k l (h.To_end g j) other not_so e = cc
undropped k l (h.Sent g j) other not_so e = cc
undropped k l (h.Refused g j) other not_so e = cc
undropped k l (h.Denied g j) other not_so e = cc
undropped k l (h.Dropped g j) other not_so e = cc
undropped k l (h.Abandon j) other not_so e = other (ap h.Abandon (dropped_by j k e))
undropped k l any2 other not_so e = not_so e

-- ---- an activity that is past does not go on again

abbrev pub IsPast : (k : ℕ) → SendState → Type 0
IsPast k x = (k ≤ last_of x) × (goes_on x k ≡ false)

confirmed_past : (x : SendState) (k n : ℕ) → IsPast k x → IsPast k (confirmed_at x n)
confirmed_past (Idle l) k n p = p
confirmed_past any0 k n p = p

ending_past : (x : SendState) (k j : ℕ) → is_sending x j ≡ true → IsPast k x → (k ≤ j) × ((k == j) ≡ false)
ending_past (Sending i c) k j e p =
    subst (λ (v : ℕ). (k ≤ v) × ((k == v) ≡ false)) (sym (eqb-true j i e)) p
ending_past any0 k j e p = absurd (never e)

live_last : (x : SendState) (j : ℕ) → is_live x j ≡ true → last_of x ≡ j
live_last (Idle l) j e = absurd (never e)
live_last (Sending i c) j e = sym (eqb-true j i e)
live_last (Ending i c) j e = sym (eqb-true j i e)
live_last (Dropping i) j e = sym (eqb-true j i e)

sending_last : (x : SendState) (j : ℕ) → is_sending x j ≡ true → last_of x ≡ j
sending_last (Sending i c) j e = sym (eqb-true j i e)
sending_last any0 j e = absurd (never e)

ending_last : (x : SendState) (j : ℕ) → is_ending x j ≡ true → last_of x ≡ j
ending_last (Ending i c) j e = sym (eqb-true j i e)
ending_last any0 j e = absurd (never e)

sending_goes : (x : SendState) (k : ℕ) → is_sending x k ≡ true → goes_on x k ≡ true
sending_goes (Sending i c) k e = e
sending_goes any0 k e = absurd (never e)

settled_past : (x : SendState) (k j : ℕ) → last_of x ≡ j → IsPast k x → IsPast k (Idle j)
settled_past x k j e p = (subst (λ (v : ℕ). k ≤ v) e p.0, refl)

started_past : (x : SendState) (k j : ℕ) → x ≡ Idle (j - 1) → 1 ≤ j → IsPast k x → IsPast k (Sending j 0)
started_past x k j e le p =
    let below : k ≤ j - 1 = subst (λ (v : SendState). k ≤ last_of v) e p.0 in
    (omega (arith, below), ne_eqb k j (λ same. omega (arith, below, le, same)))

past_step : (spells : List ℕ → Bool) (k : ℕ) (l : Halves) (step : SeenStep) → Allows spells l step → IsPast k l.state
    → IsPast k (halves_after l step).state
past_step spells k l (h.Start g j octets) may p = started_past l.state k j may.2 may.3 p
past_step spells k l (h.Confirm g j n) may p = confirmed_past l.state k n p
past_step spells k l (h.To_end g j) may p = ending_past l.state k j may.1 p
past_step spells k l (h.Sent g j) may p = settled_past l.state k j (ending_last l.state j may.1) p
past_step spells k l (h.Refused g j) may p = settled_past l.state k j (live_last l.state j may.1) p
past_step spells k l (h.Denied g j) may p = settled_past l.state k j (live_last l.state j may.1) p
past_step spells k l (h.Dropped g j) may p = settled_past l.state k j (live_last l.state j may.1) p
past_step spells k l (h.Abandon j) may p =
    (subst (λ (v : ℕ). k ≤ v) (sending_last l.state j may.1) p.0, refl)
past_step spells k l any3 may p = p

-- ---- one entry of a history

some_is : (x y : Seen) → Some x ≡ Some y → x ≡ y
some_is x y e = cc

pub here : (history : List Seen) (q : ℕ) (x : Seen) → slice_get history q ≡ Some x
    → (rest : List Seen) × (history ≡ take q history ++ x ∷ rest) × (take (suc q) history ≡ take q history ++ x ∷ [])
here [] q x e = absurd (let none : None ≡ Some x = e in cc)
here (y ∷ ys) zero x e =
    let same : y ≡ x = some_is y x e in
    (ys, ap (λ (z : Seen). z ∷ ys) same, ap (λ (z : Seen). z ∷ []) same)
here (y ∷ ys) (suc q) x e =
    let more = here ys q x e in
    (more.0, ap (λ (z : List Seen). y ∷ z) more.1, ap (λ (z : List Seen). y ∷ z) more.2)

front_allowed : (spells : List ℕ → Bool) (l : Halves) (a b : List SeenStep) → AreAllowed spells l (a ++ b)
    → AreAllowed spells l a
front_allowed spells l [] b may = tt
front_allowed spells l (v ∷ vs) b may = (may.0, front_allowed spells (halves_after l v) vs b may.1)

module _ (spells : List ℕ → Bool) (history : List Seen) (lane : ℕ) (allow : LanesAllow spells history) where
  abbrev pub lane_at : ℕ → Halves
  lane_at n = lane_upto history lane (take n history)

  pub entry_allowed : (q : ℕ) (x : Seen) → slice_get history q ≡ Some x → AreAllowed spells (lane_at q) (of_lane lane x)
  entry_allowed q x e =
      let at = here history q x e in
      let first : Halves = lane_at_first lane history in
      let whole : AreAllowed spells first (of_lane_all lane (take q history) ++ of_lane_all lane (x ∷ at.0)) =
      subst (λ (z : List SeenStep). AreAllowed spells first z) (of-append lane (take q history) (x ∷ at.0))
      (subst (λ (z : List Seen). AreAllowed spells first (of_lane_all lane z)) at.1 (allow lane)) in
      front_allowed spells (lane_at q) (of_lane lane x) (of_lane_all lane at.0)
      (split spells first (of_lane_all lane (take q history)) (of_lane_all lane (x ∷ at.0)) whole)

  pub lane_next : (q : ℕ) (x : Seen) → slice_get history q ≡ Some x
      → lane_at (suc q) ≡ halves_run (lane_at q) (of_lane lane x)
  lane_next q x e =
      ap (λ (z : List Seen). lane_upto history lane z) (here history q x e).2
      ∙ upto-more history lane (take q history) x

  pub own_is : (step : SeenStep) → of_lane lane (On lane step) ≡ step ∷ []
  own_is step = ap (λ (b : Bool). if b then step ∷ [] else []) (eq-eqb lane lane refl)

  pub step_allowed : (q : ℕ) (step : SeenStep) → slice_get history q ≡ Some (On lane step)
      → Allows spells (lane_at q) step
  step_allowed q step e =
      (subst (λ (z : List SeenStep). AreAllowed spells (lane_at q) z) (own_is step)
      (entry_allowed q (On lane step) e)).0

  pub step_leads : (q : ℕ) (step : SeenStep) → slice_get history q ≡ Some (On lane step)
      → lane_at (suc q) ≡ halves_after (lane_at q) step
  step_leads q step e =
      lane_next q (On lane step) e ∙ ap (λ (z : List SeenStep). halves_run (lane_at q) z) (own_is step)

  -- ---- from one length up to another

  module _ (P : Halves → Type 0) where
    abbrev KeepsAt : ℕ → Type 0
    KeepsAt q = (step : SeenStep) → slice_get history q ≡ Some (On lane step) → P (lane_at q)
        → P (halves_after (lane_at q) step)

    other_keeps : (j : ℕ) (step : SeenStep) (q : ℕ) (b : Bool) → (j == lane) ≡ b
        → slice_get history q ≡ Some (On j step) → KeepsAt q → P (lane_at q) → P (lane_at (suc q))
    other_keeps j step q true n e keeps p =
        let is : slice_get history q ≡ Some (On lane step) =
        subst (λ (z : ℕ). slice_get history q ≡ Some (On z step)) (eqb-true j lane n) e in
        subst P (sym (step_leads q step is)) (keeps step is p)
    other_keeps j step q false n e keeps p =
        let none : of_lane lane (On j step) ≡ [] = ap (λ (b : Bool). if b then step ∷ [] else []) n in
        subst P
        (sym (lane_next q (On j step) e ∙ ap (λ (z : List SeenStep). halves_run (lane_at q) z) none)) p

    entry_keeps : (q : ℕ) (x : Seen) → slice_get history q ≡ Some x → KeepsAt q → P (lane_at q) → P (lane_at (suc q))
    entry_keeps q (On j step) e keeps p = other_keeps j step q (j == lane) refl e keeps p
    entry_keeps q Elsewhere e keeps p = subst P (sym (lane_next q Elsewhere e)) p
    entry_keeps q (Begins count lanes) e keeps p = subst P (sym (lane_next q (Begins count lanes) e)) p

    pub span_keeps : (n from : ℕ) → from + n ≤ length history
        → ((q : ℕ) → from ≤ q → q < from + n → KeepsAt q) → P (lane_at from) → P (lane_at (from + n))
    span_keeps zero from le keeps p =
        let e : from ≡ from + 0 = omega arith in subst (λ (z : ℕ). P (lane_at z)) e p
    span_keeps (suc n) from le keeps p =
        let e : suc from + n ≡ from + suc n = omega arith in
        let next = entry_keeps from (get_or history from Elsewhere)
        (slice_get-get_or history from Elsewhere (omega (arith, le))) (keeps from (omega arith) (omega arith)) p in
        subst (λ (z : ℕ). P (lane_at z)) e
        (span_keeps n (suc from) (omega (arith, le))
        (λ q a b. keeps q (omega (arith, a)) (omega (arith, b))) next)

    pub between_keeps : (from upto : ℕ) → from ≤ upto → upto ≤ length history
        → ((q : ℕ) → from ≤ q → q < upto → KeepsAt q) → P (lane_at from) → P (lane_at upto)
    between_keeps from upto a b keeps p =
        let e : from + (upto - from) ≡ upto = omega (arith, a) in
        subst (λ (z : ℕ). P (lane_at z)) e
        (span_keeps (upto - from) from (omega (arith, a, b)) (λ q i j. keeps q i (omega (arith, j, a))) p)

  -- ---- the sending half

  -- while its activity is not given up, a lane does not come to drop it
  pub stays_undropped : (k from upto : ℕ) → from ≤ upto → upto ≤ length history → IsKept history lane k from upto
      → ((lane_at from).state ≡ Dropping k → ⊥) → (lane_at upto).state ≡ Dropping k → ⊥
  stays_undropped k from upto a b kept not_so =
      between_keeps (λ l. l.state ≡ Dropping k → ⊥) from upto a b
      (λ q i j step e p. undropped k (lane_at q) step
      (λ same. kept q i j (e ∙ ap (λ (z : SeenStep). Some (On lane z)) same)) p) not_so

  -- behind its Abandon an activity is past
  pub stays_past : (k from upto : ℕ) → from ≤ upto → upto ≤ length history → IsPast k (lane_at from).state
      → IsPast k (lane_at upto).state
  stays_past k from upto a b past =
      between_keeps (λ l. IsPast k l.state) from upto a b
      (λ q i j step e p. past_step spells k (lane_at q) step (step_allowed q step e) p) past

  abandoned_past : (k p upto : ℕ) → slice_get history p ≡ Some (On lane (h.Abandon k)) → p < upto
      → upto ≤ length history → IsPast k (lane_at upto).state
  abandoned_past k p upto e lt le =
      stays_past k (suc p) upto (omega (arith, lt)) le
      (subst (λ (l : Halves). IsPast k l.state) (sym (step_leads p (h.Abandon k) e)) (omega arith, refl))

  -- so no Confirm and no Ending of it follows
  pub none_confirms : (k p upto g n : ℕ) → slice_get history p ≡ Some (On lane (h.Abandon k)) → p < upto
      → slice_get history upto ≡ Some (On lane (h.Confirm g k n)) → ⊥
  none_confirms k p upto g n e lt there =
      let in_history = slice_get_within history upto _ there in
      let past = abandoned_past k p upto e lt (omega (arith, in_history)) in
      never (sym past.1 ∙ (step_allowed upto (h.Confirm g k n) there).1)

  pub none_ends : (k p upto g : ℕ) → slice_get history p ≡ Some (On lane (h.Abandon k)) → p < upto
      → slice_get history upto ≡ Some (On lane (h.To_end g k)) → ⊥
  none_ends k p upto g e lt there =
      let in_history = slice_get_within history upto _ there in
      let past = abandoned_past k p upto e lt (omega (arith, in_history)) in
      never (sym past.1 ∙ sending_goes (lane_at upto).state k (step_allowed upto (h.To_end g k) there).1)
