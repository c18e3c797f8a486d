-- Sums over lists whose members change one at a time, and how often a number stands in a row.
use Rattle.std.proofs.Common.{◌≡◌, ◌≢◌, ℕ, zero, suc, ◌+◌, ◌<◌, ◌≤◌, List, [], ◌∷◌, ◌++◌, set, true, cond, eqb, refl}
use Rattle.std.proofs.Common.{sym, ap, ◌∙◌, arith, eq-eqb, ne_eqb}
use mathlib.Core.Option.{some, some-injective, some-ne-none}
use mathlib.Core.Logic.{dite}
use native.Mathlib.Decide.{dec_le, ℕ_discrete}
use lib.ListN.{get_elem?}
use Rattle.mta_shared.specs.Counts.{total, hit, times, row}

module _ {X : Type 0} (f : X → ℕ) where
  pub total-set : (xs : List X) (i : ℕ) (x y : X) → get_elem? xs i ≡ some x
      → total f (set xs i y) + f x ≡ total f xs + f y
  total-set [] i x y e = absurd (some-ne-none x (sym e))
  total-set (z ∷ xs) zero x y e = let h : f z ≡ f x = ap f (some-injective z x e) in omega arith
  total-set (z ∷ xs) (suc i) x y e = let h : total f (set xs i y) + f x ≡ total f xs + f y = total-set xs i x y e in
      omega arith

  pub total-push : (xs : List X) (y : X) → total f (xs ++ y ∷ []) ≡ total f xs + f y
  total-push [] y = omega arith
  total-push (x ∷ xs) y = let h : total f (xs ++ y ∷ []) ≡ total f xs + f y = total-push xs y in omega arith

  pub total-append : (xs ys : List X) → total f (xs ++ ys) ≡ total f xs + total f ys
  total-append [] ys = omega arith
  total-append (x ∷ xs) ys = let h : total f (xs ++ ys) ≡ total f xs + total f ys = total-append xs ys in omega arith

  -- a member's part of the sum
  pub total-at : (xs : List X) (i : ℕ) (x : X) → get_elem? xs i ≡ some x → f x ≤ total f xs
  total-at [] i x e = absurd (some-ne-none x (sym e))
  total-at (z ∷ xs) zero x e = let h : f z ≡ f x = ap f (some-injective z x e) in omega arith
  total-at (z ∷ xs) (suc i) x e = let h : f x ≤ total f xs = total-at xs i x e in omega arith

  pub total-two : (xs : List X) (i j : ℕ) (x y : X) → i ≢ j → get_elem? xs i ≡ some x → get_elem? xs j ≡ some y
      → f x + f y ≤ total f xs
  total-two [] i j x y n e e' = absurd (some-ne-none x (sym e))
  total-two (z ∷ xs) zero zero x y n e e' = absurd (n refl)
  total-two (z ∷ xs) zero (suc j) x y n e e' = let h : f z ≡ f x = ap f (some-injective z x e) in
      let r : f y ≤ total f xs = total-at xs j y e' in omega arith
  total-two (z ∷ xs) (suc i) zero x y n e e' = let h : f z ≡ f y = ap f (some-injective z y e') in
      let r : f x ≤ total f xs = total-at xs i x e in omega arith
  total-two (z ∷ xs) (suc i) (suc j) x y n e e' = let h : f x + f y ≤ total f xs =
      total-two xs i j x y (λ k. n (ap suc k)) e e' in omega arith

  pub total-none : (xs : List X) → ((j : ℕ) (y : X) → get_elem? xs j ≡ some y → f y ≡ 0) → total f xs ≡ 0
  total-none [] h = refl
  total-none (z ∷ xs) h = let a : f z ≡ 0 = h 0 z refl in let r : total f xs ≡ 0 = total-none xs (λ j. h (suc j)) in
      omega arith

  -- the sum is one member's part where the others have none
  pub total-one : (xs : List X) (i : ℕ) (x : X) → get_elem? xs i ≡ some x
      → ((j : ℕ) (y : X) → j ≢ i → get_elem? xs j ≡ some y → f y ≡ 0) → total f xs ≡ f x
  total-one [] i x e h = absurd (some-ne-none x (sym e))
  total-one (z ∷ xs) zero x e h = let a : f z ≡ f x = ap f (some-injective z x e) in let r : total f xs ≡ 0 =
      total-none xs (λ j y. h (suc j) y (λ k. omega arith)) in omega arith
  total-one (z ∷ xs) (suc i) x e h = let a : f z ≡ 0 = h 0 z (λ k. omega arith) refl in let r : total f xs ≡ f x =
      total-one xs i x e (λ j y n. h (suc j) y (λ k. n (omega arith))) in omega arith

  pub total-le : (g : X → ℕ) (xs : List X) → ((j : ℕ) (y : X) → get_elem? xs j ≡ some y → f y ≤ g y)
      → total f xs ≤ total g xs
  total-le g [] h = omega arith
  total-le g (z ∷ xs) h = let a : f z ≤ g z = h 0 z refl in let r : total f xs ≤ total g xs =
      total-le g xs (λ j. h (suc j)) in omega arith

pub times-append : (p : ℕ) (xs ys : List ℕ) → times p (xs ++ ys) ≡ times p xs + times p ys
times-append p xs ys = total-append (hit p) xs ys

-- a number stands once in the list of itself
pub times-self : (p : ℕ) → times p (p ∷ []) ≡ 1
times-self p = let e : eqb p p ≡ true = eq-eqb p p refl in ap (λ b. cond b 1 0 + 0) e

one_of : (p q : ℕ) → p ≢ q → hit p q ≡ 0
one_of p q n = ap (λ b. cond b 1 0) (ne_eqb p q n)

pub row-push : (a n : ℕ) → row a (suc n) ≡ row a n ++ (a + n) ∷ []
row-push a zero = ap (λ (k : ℕ). k ∷ []) (omega arith)
row-push a (suc n) = ap (λ l. a ∷ l) (row-push (suc a) n ∙ ap (λ (k : ℕ). row (suc a) n ++ k ∷ []) (omega arith))

pub row-add : (a m n : ℕ) → row a (m + n) ≡ row a m ++ row (a + m) n
row-add a zero n = (λ i. row (let e : a ≡ a + 0 = omega arith in e i) (let e : 0 + n ≡ n = omega arith in e i))
row-add a (suc m) n =
    let e : suc m + n ≡ suc (m + n) = omega arith in
    let e' : suc a + m ≡ a + suc m = omega arith in
    ap (row a) e ∙ ap (λ l. a ∷ l) (row-add (suc a) m n ∙ ap (λ k. row (suc a) m ++ row k n) e')

pub times-row-below : (p a n : ℕ) → p < a → times p (row a n) ≡ 0
times-row-below p a zero h = refl
times-row-below p a (suc n) h = let u : hit p a ≡ 0 = one_of p a (λ e. omega arith) in
    let r : times p (row (suc a) n) ≡ 0 = times-row-below p (suc a) n (omega arith) in omega arith

pub times-row-above : (p a n : ℕ) → a + n ≤ p → times p (row a n) ≡ 0
times-row-above p a zero h = refl
times-row-above p a (suc n) h = let u : hit p a ≡ 0 = one_of p a (λ e. omega arith) in
    let r : times p (row (suc a) n) ≡ 0 = times-row-above p (suc a) n (omega arith) in omega arith

pub times-row-le : (p a n : ℕ) → times p (row a n) ≤ 1
times-row-le p a zero = omega arith
times-row-le p a (suc n) = dite (ℕ_discrete p a)
    (λ e. let u : hit p a ≡ 1 = ap (λ b. cond b 1 0) (eq-eqb p a e) in let r : times p (row (suc a) n) ≡ 0 =
    times-row-below p (suc a) n (omega arith) in omega arith)
    (λ e. let u : hit p a ≡ 0 = one_of p a e in let r : times p (row (suc a) n) ≤ 1 = times-row-le p (suc a) n in
    omega arith)

-- what stands in a row lies in its bounds
pub row_bounds : (p a n : ℕ) → 0 < times p (row a n) → (a ≤ p) × (p < a + n)
row_bounds p a n h = (
  dite (dec_le a p) (λ le. le) (λ no. let z : times p (row a n) ≡ 0 = times-row-below p a n (omega arith) in
      absurd (omega arith)),
  dite (dec_le (a + n) p) (λ le. let z : times p (row a n) ≡ 0 = times-row-above p a n le in absurd (omega arith))
      (λ no. omega arith),
)

pub times-row-in : (p a n : ℕ) → a ≤ p → p < a + n → times p (row a n) ≡ 1
times-row-in p a zero h h' = absurd (omega arith)
times-row-in p a (suc n) h h' = dite (ℕ_discrete p a)
    (λ e. let u : hit p a ≡ 1 = ap (λ b. cond b 1 0) (eq-eqb p a e) in let r : times p (row (suc a) n) ≡ 0 =
    times-row-below p (suc a) n (omega arith) in omega arith)
    (λ e. let u : hit p a ≡ 0 = one_of p a e in let r : times p (row (suc a) n) ≡ 1 =
    times-row-in p (suc a) n (let n' : p ≢ a = e in omega arith) (omega arith) in omega arith)
