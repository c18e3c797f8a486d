-- Numbers below another that all differ are no more than that many.
use Rattle.std.proofs.Common.{◌≡◌, ◌≢◌, ℕ, zero, suc, ◌<◌, ◌≤◌, cond, eqb, eqb-true, List, [], ◌∷◌, length, get_or}
use Rattle.std.proofs.Common.{refl, sym, ap, subst, inl, inr, arith}
use Rattle.std.proofs.lemmas.Bool.{cases_Bool, eqb-false}

-- no element is v
abbrev NoneIs : ℕ → List ℕ → Type 0
NoneIs v [] = Unit {0}
NoneIs v (x ∷ xs) = (x ≢ v) × NoneIs v xs

abbrev Apart : List ℕ → Type 0
Apart [] = Unit {0}
Apart (x ∷ xs) = NoneIs x xs × Apart xs

abbrev Below : ℕ → List ℕ → Type 0
Below n [] = Unit {0}
Below n (x ∷ xs) = (x < n) × Below n xs

abbrev without : ℕ → List ℕ → List ℕ
without v [] = []
without v (x ∷ xs) = cond (eqb x v) (without v xs) (x ∷ without v xs)

none_kept : (v : ℕ) (xs : List ℕ) → NoneIs v xs → length (without v xs) ≡ length xs
none_kept v [] h = refl
none_kept v (x ∷ xs) h = elim (cases_Bool (eqb x v)) [
  | inl e ↦ absurd (h.0 (eqb-true x v e))
  | inr f ↦ rw f (ap suc (none_kept v xs h.1))
]

one_less : (v : ℕ) (xs : List ℕ) → Apart xs → length xs ≤ suc (length (without v xs))
one_less v [] h = omega arith
one_less v (x ∷ xs) h = elim (cases_Bool (eqb x v)) [
  | inl e ↦ (
      let same = none_kept v xs (subst (λ (y : ℕ). NoneIs y xs) (eqb-true x v e) h.0) in
      rw e (omega (arith, same)))
  | inr f ↦ (let rest = one_less v xs h.1 in rw f (omega (arith, rest)))
]

none_without : (x v : ℕ) (xs : List ℕ) → NoneIs x xs → NoneIs x (without v xs)
none_without x v [] h = tt
none_without x v (y ∷ ys) h = elim (cases_Bool (eqb y v)) [
  | inl e ↦ rw e (none_without x v ys h.1)
  | inr f ↦ rw f (h.0, none_without x v ys h.1)
]

apart_without : (v : ℕ) (xs : List ℕ) → Apart xs → Apart (without v xs)
apart_without v [] h = tt
apart_without v (y ∷ ys) h = elim (cases_Bool (eqb y v)) [
  | inl e ↦ rw e (apart_without v ys h.1)
  | inr f ↦ rw f (none_without y v ys h.0, apart_without v ys h.1)
]

below_less : (x n : ℕ) → x < suc n → (x ≡ n → ⊥) → x < n
below_less x n h ne = omega arith

below_without : (n : ℕ) (xs : List ℕ) → Below (suc n) xs → Below n (without n xs)
below_without n [] h = tt
below_without n (y ∷ ys) h = elim (cases_Bool (eqb y n)) [
  | inl e ↦ rw e (below_without n ys h.1)
  | inr f ↦ rw f (below_less y n h.0 (eqb-false y n f), below_without n ys h.1)
]

no_more : (a b n : ℕ) → a ≤ suc b → b ≤ n → a ≤ suc n
no_more a b n h k = omega arith

none_below : (x : ℕ) → x < 0 → ⊥
none_below x h = omega arith

few : (n : ℕ) (xs : List ℕ) → Apart xs → Below n xs → length xs ≤ n
few n [] a b = omega arith
few zero (x ∷ xs) a b = absurd (none_below x b.0)
few (suc n) (x ∷ xs) a b =
    no_more (length (x ∷ xs)) (length (without n (x ∷ xs))) n (one_less n (x ∷ xs) a)
    (few n (without n (x ∷ xs)) (apart_without n (x ∷ xs) a) (below_without n (x ∷ xs) b))

-- ---- the same by places

none_at : (v : ℕ) (xs : List ℕ) → ((k : ℕ) → k < length xs → get_or xs k 0 ≢ v) → NoneIs v xs
none_at v [] h = tt
none_at v (x ∷ xs) h = (h 0 (omega arith), none_at v xs (λ k l. h (suc k) (omega (arith, l))))

apart_at : (xs : List ℕ) → ((j k : ℕ) → j < k → k < length xs → get_or xs j 0 ≢ get_or xs k 0) → Apart xs
apart_at [] h = tt
apart_at (x ∷ xs) h = (
  none_at x xs (λ k l e. h 0 (suc k) (omega arith) (omega (arith, l)) (sym e)),
  apart_at xs (λ j k l m. h (suc j) (suc k) (omega (arith, l)) (omega (arith, m))),
)

below_at : (n : ℕ) (xs : List ℕ) → ((k : ℕ) → k < length xs → get_or xs k 0 < n) → Below n xs
below_at n [] h = tt
below_at n (x ∷ xs) h = (h 0 (omega arith), below_at n xs (λ k l. h (suc k) (omega (arith, l))))

pub few_below : (n : ℕ) (xs : List ℕ) → ((k : ℕ) → k < length xs → get_or xs k 0 < n)
    → ((j k : ℕ) → j < k → k < length xs → get_or xs j 0 ≢ get_or xs k 0) → length xs ≤ n
few_below n xs below differ = few n xs (apart_at xs differ) (below_at n xs below)
