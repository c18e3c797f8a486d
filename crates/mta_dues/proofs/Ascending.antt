-- Numbers that are found in turn.
use Rattle.std.proofs.Common.{inl, inr, ◌≡◌, ◌<◌, ℕ, Bool, true, false, eqb}
use Rattle.std.proofs.Common.{List, [], ◌∷◌, ◌++◌, refl}
use Rattle.std.specs.Prelude.{◌⊎◌, ◌||◌}
use Rattle.std.proofs.lemmas.Bool.{eqb-true, eq-eqb, or_cases, or_left, or_right}
use Rattle.mta_machine.specs.Items.{names}
use Rattle.mta_histories.specs.Due.{IsAscending}

pub named_before : (xs : List ℕ) (x r : ℕ) → names xs r ≡ true → names (xs ++ x ∷ []) r ≡ true
named_before [] x r e = absurd cc
named_before (y ∷ xs) x r e = by_first (named_before xs x r) (eqb r y) e
  where
    by_first : (names xs r ≡ true → names (xs ++ x ∷ []) r ≡ true) → (b : Bool) → (b || names xs r) ≡ true
        → (b || names (xs ++ x ∷ []) r) ≡ true
    by_first more true e = refl
    by_first more false e = more e

pub named_last : (xs : List ℕ) (x : ℕ) → names (xs ++ x ∷ []) x ≡ true
named_last [] x = or_left (eqb x x) false (eq-eqb x x refl)
named_last (y ∷ xs) x = by_first (named_last xs x) (eqb x y)
  where
    by_first : names (xs ++ x ∷ []) x ≡ true → (b : Bool) → (b || names (xs ++ x ∷ []) x) ≡ true
    by_first more true = refl
    by_first more false = more

-- what is named with a number more was named before, or is that number
pub named_more : (xs : List ℕ) (x r : ℕ) → names (xs ++ x ∷ []) r ≡ true
    → (names xs r ≡ true) ⊎ (r ≡ x)
named_more [] x r e = elim (or_cases (eqb r x) false e) [
  | inl same ↦ inr (eqb-true r x same)
  | inr never ↦ absurd cc
]
named_more (y ∷ xs) x r e = by_first (named_more xs x r) (eqb r y) e
  where
    by_first : (names (xs ++ x ∷ []) r ≡ true → (names xs r ≡ true) ⊎ (r ≡ x)) → (b : Bool)
        → (b || names (xs ++ x ∷ []) r) ≡ true → ((b || names xs r) ≡ true) ⊎ (r ≡ x)
    by_first more true e = inl refl
    by_first more false e = more e

-- a greater number behind ascending ones
pub ascends : (xs : List ℕ) (x : ℕ) → IsAscending xs → ((r : ℕ) → names xs r ≡ true → r < x)
    → IsAscending (xs ++ x ∷ [])
ascends [] x up below = tt
ascends (a ∷ []) x up below = (below a (or_left (eqb a a) false (eq-eqb a a refl)), tt)
ascends (a ∷ b ∷ rest) x up below =
    (up.0, ascends (b ∷ rest) x up.1 (λ r e. below r (or_right (eqb r a) (names (b ∷ rest) r) e)))
