-- Who is found by halves is named.
use Rattle.std.proofs.Common.{◌≡◌, ◌≤◌, ◌<◌, ℕ, zero, suc, Bool, true, false, eqb, List, [], ◌∷◌, length, get_or}
use Rattle.std.proofs.Common.{inl, inr, refl, sym, ap, ◌∙◌, arith}
use Rattle.std.specs.Prelude.{◌⊎◌, ◌||◌, MatchBool}
use Rattle.std.specs.List.Sorted.{IsNonDecreasing}
use Rattle.std.proofs.lemmas.Bool.{cases_lt, eq-eqb, eqb-true}
use Rattle.mta_lanes.specs.Order.{AreInOrder}
use Rattle.mta_histories.specs.Lanes.{names}

or_true : (a b : Bool) → b ≡ true → (a || b) ≡ true
or_true true b e = refl
or_true false b e = e

or_false : (a b : Bool) → a ≡ false → b ≡ false → (a || b) ≡ false
or_false a b e f = ap (λ (x : Bool). x || b) e ∙ f

pub named_at : (xs : List ℕ) (i x : ℕ) → i < length xs → get_or xs i 0 ≡ x → names xs x ≡ true
named_at [] i x within is = absurd (omega (arith, within))
named_at (a ∷ xs) zero x within is = ap (λ (t : Bool). t || names xs x) (eq-eqb x a (sym is))
named_at (a ∷ xs) (suc i) x within is = or_true (eqb x a) (names xs x) (named_at xs i x (omega (arith, within)) is)

pub not_named : (xs : List ℕ) (x : ℕ) → ((k : ℕ) → k < length xs → get_or xs k 0 ≡ x → ⊥) → names xs x ≡ false
not_named [] x never = refl
not_named (a ∷ xs) x never =
    or_false (eqb x a) (names xs x) (other (eqb x a) refl)
    (not_named xs x (λ k within is. never (suc k) (omega (arith, within)) is))
  where
    other : (t : Bool) → eqb x a ≡ t → eqb x a ≡ false
    other true e = absurd (never 0 (omega arith) (sym (eqb-true x a e)))
    other false e = e

-- who is above those before a place and below those behind it is not there
pub not_found : (xs : List ℕ) (x i : ℕ) → ((k : ℕ) → k < i → get_or xs k 0 < x)
    → ((k : ℕ) → i ≤ k → k < length xs → x < get_or xs k 0) → names xs x ≡ false
not_found xs x i below above = not_named xs x (λ k within is. by_place k within is (cases_lt k i))
  where
    by_place : (k : ℕ) → k < length xs → get_or xs k 0 ≡ x → (k < i) ⊎ (i ≤ k) → ⊥
    by_place k within is (inl less) = (let low = below k less in omega (arith, low, is))
    by_place k within is (inr far) = (let high = above k far within in omega (arith, high, is))

-- what a test of order has told
pub in_order : (xs : List ℕ) (r : Bool) (Q : Type 0) → MatchBool r (IsNonDecreasing xs) Q → r ≡ true → AreInOrder xs
in_order xs true Q told is = λ i j le within. told i j 0 le within
in_order xs false Q told is = absurd cc
