-- Where an activity is given up in a history.
use Rattle.std.proofs.Common.{◌≡◌, ◌<◌, ◌≤◌, ℕ, zero, suc, ◌+◌, ◌-◌, ◌&&◌, ◌==◌, if◌then◌else◌, Bool, true, false}
use Rattle.std.proofs.Common.{Option, Some, None, slice_get, List, refl, sym, ap, subst, ◌∙◌, arith}
use Rattle.std.proofs.lemmas.Bool.{eqb-true, eqb-false, eq-eqb}
use Rattle.mta_lane_send.specs.Half.{is_sending, last_of}
use Rattle.mta_transfer_rules.specs.Sending.{SendEnd}
use Rattle.mta_transfer_rules.specs.Lanes as h
use Rattle.mta_transfer_rules.specs.Lanes.{SeenStep, Seen, On, Elsewhere, Begins}
use Rattle.mta_transfer_laws.specs.Sessions.{IsKept, IsSeen}
use Rattle.mta_session_list_laws.specs.Abandons.{is_abandon, gives_up, given_up_in, abandoned_upto}

pub never : false ≡ true → ⊥
never e = cc

pub both : (a b : Bool) → (a && b) ≡ true → (a ≡ true) × (b ≡ true)
both true b e = (refl, e)
both false b e = absurd (never e)

-- ---- one entry

abandon_is : (k : ℕ) (step : SeenStep) → is_abandon k step ≡ true → step ≡ h.Abandon k
abandon_is k (h.Abandon j) e = ap h.Abandon (eqb-true j k e)
abandon_is k step e = absurd (never e)

pub gives_up_is : (lane k : ℕ) (x : Option Seen) → gives_up lane k x ≡ true → x ≡ Some (On lane (h.Abandon k))
gives_up_is lane k (Some (On j step)) e =
    let parts = both (j == lane) (is_abandon k step) e in
    ap (λ (n : ℕ). Some (On n step)) (eqb-true j lane parts.0)
    ∙ ap (λ (z : SeenStep). Some (On lane z)) (abandon_is k step parts.1)
gives_up_is lane k (Some Elsewhere) e = absurd (never e)
gives_up_is lane k (Some (Begins count lanes)) e = absurd (never e)
gives_up_is lane k None e = absurd (never e)

both_so : (a b : Bool) → a ≡ true → b ≡ true → (a && b) ≡ true
both_so true true p q = refl
both_so true false p q = q
both_so false b p q = p

pub is_given_up : (lane k : ℕ) (x : Option Seen) → x ≡ Some (On lane (h.Abandon k)) → gives_up lane k x ≡ true
is_given_up lane k x e =
    subst (λ z. gives_up lane k z ≡ true) (sym e)
    (both_so (lane == lane) (k == k) (eq-eqb lane lane refl) (eq-eqb k k refl))

-- ---- the first of them

module _ (history : List Seen) (lane k : ℕ) where
  abbrev At : ℕ → Bool
  At p = gives_up lane k (slice_get history p)

  data Found (from count : ℕ) : Option ℕ → Type 0 where
    nowhere : ((q : ℕ) → from ≤ q → q < from + count → At q ≡ false) → Found from count None
    first : (p : ℕ) → from ≤ p → p < from + count → At p ≡ true → ((q : ℕ) → from ≤ q → q < p → At q ≡ false)
        → Found from count (Some p)

  here_or : (from q : ℕ) (b : Bool) → (q == from) ≡ b → At from ≡ false → from ≤ q → (from + 1 ≤ q → At q ≡ false)
      → At q ≡ false
  here_or from q true e n le more = subst (λ z. At z ≡ false) (sym (eqb-true q from e)) n
  here_or from q false e n le more = let ne = eqb-false q from e in more (omega (arith, ne, le))

  later : (from n : ℕ) (x : Option ℕ) → At from ≡ false → Found (from + 1) n x → Found from (suc n) x
  later from n x e (nowhere none) =
      nowhere (λ q le lt. here_or from q (q == from) refl e le (λ m. none q m (omega (arith, lt))))
  later from n x e (first p le lt is none) =
      first p (omega (arith, le)) (omega (arith, lt)) is
      (λ q a b. here_or from q (q == from) refl e a (λ m. none q m b))

  by_entry : (from n : ℕ) (b : Bool) → At from ≡ b → Found (from + 1) n (given_up_in history lane k (from + 1) n)
      → Found from (suc n) (if b then Some from else given_up_in history lane k (from + 1) n)
  by_entry from n true e more = first from (omega arith) (omega arith) e (λ q a b. absurd (omega (arith, a, b)))
  by_entry from n false e more = later from n _ e more

  found : (n from : ℕ) → Found from n (given_up_in history lane k from n)
  found zero from = nowhere (λ q a b. absurd (omega (arith, a, b)))
  found (suc n) from = by_entry from n (At from) refl (found n (from + 1))

  kept_before : (from upto : ℕ) → ((q : ℕ) → from ≤ q → q < upto → At q ≡ false) → IsKept history lane k from upto
  kept_before from upto none q a b e = never (sym (none q a b) ∙ is_given_up lane k (slice_get history q) e)

-- ---- what a list's end sends

module _ (history : List Seen) (lane : ℕ) where
  -- nothing of it is given up from one length up to another, or it is so first here
  pub data Placed (from upto : ℕ) (e : SendEnd) : Option ℕ → Type 0 where
    kept : IsSeen history lane from upto e → Placed from upto e None
    placed : (p : ℕ) → is_sending e.state (last_of e.state) ≡ true → from ≤ p → p < upto
        → slice_get history p ≡ Some (On lane (h.Abandon (last_of e.state)))
        → IsKept history lane (last_of e.state) from p → Placed from upto e (Some p)

  by_found : (from upto : ℕ) (e : SendEnd) (x : Option ℕ) → from ≤ upto → is_sending e.state (last_of e.state) ≡ true
      → Found history lane (last_of e.state) from (upto - from) x → Placed from upto e x
  by_found from upto e x le i (nowhere none) =
      kept (λ j. kept_before history lane (last_of e.state) from upto (λ q a b. none q a (omega (arith, le, b))))
  by_found from upto e x le i (first p a b is none) =
      placed p i a (omega (arith, le, b)) (gives_up_is lane (last_of e.state) (slice_get history p) is)
      (kept_before history lane (last_of e.state) from p none)

  by_sending : (from upto : ℕ) (e : SendEnd) (b : Bool) → from ≤ upto → is_sending e.state (last_of e.state) ≡ b
      → Placed from upto e (if b then given_up_in history lane (last_of e.state) from (upto - from) else None)
  by_sending from upto e true le i = by_found from upto e _ le i
      (found history lane (last_of e.state) (upto - from) from)
  by_sending from upto e false le i = kept (λ j. absurd (never (sym i ∙ j)))

  pub placed_upto : (from upto : ℕ) (e : SendEnd) → from ≤ upto
      → Placed from upto e (abandoned_upto history lane from e (Some upto))
  placed_upto from upto e le = by_sending from upto e (is_sending e.state (last_of e.state)) le refl
