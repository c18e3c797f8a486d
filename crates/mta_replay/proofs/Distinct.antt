-- Numbers of which none stands twice, looked at one after the other.
use Rattle.std.proofs.Common.{◌≡◌, ◌≤◌, ◌<◌, ◌+◌, ℕ, max, Bool, true, false, eqb, List, [], ◌∷◌, ◌++◌}
use Rattle.std.proofs.Common.{length, take, drop, get_or, refl, sym, ap, subst, ◌∙◌, arith, inl, inr}
use Rattle.std.specs.Prelude.{◌↔◌, ◌⊎◌, ◌||◌}
use Rattle.std.proofs.lemmas.Bool.{eqb-true, eq-eqb, or_cases, or_parts}
use Rattle.std.proofs.lemmas.List.{drop_more, take-append-drop, take_all, take_more}
use Rattle.mta_machine.specs.Items.{names, AreDifferent}
use Rattle.mta_dues.proofs.Ascending.{named_more}
use Rattle.mta_replay.specs.Starting.{AreUpTo}

-- a number that does not stand among others behind them
unnamed_behind : (xs : List ℕ) (x y : ℕ) → names xs y ≡ false → eqb y x ≡ false → names (xs ++ x ∷ []) y ≡ false
unnamed_behind [] x y none apart = or_none (eqb y x) apart
  where
    or_none : (a : Bool) → a ≡ false → (a || false) ≡ false
    or_none true e = absurd cc
    or_none false e = refl
unnamed_behind (z ∷ xs) x y none apart =
    let parts = or_parts (eqb y z) (names xs y) none in
    both (eqb y z) (names (xs ++ x ∷ []) y) parts.0 (unnamed_behind xs x y parts.1 apart)
  where
    both : (a b : Bool) → a ≡ false → b ≡ false → (a || b) ≡ false
    both a b p q = rw p q

different_behind : (xs : List ℕ) (x : ℕ) → AreDifferent xs → names xs x ≡ false → AreDifferent (xs ++ x ∷ [])
different_behind [] x different none = (refl, tt)
different_behind (y ∷ xs) x different none =
    let parts = or_parts (eqb x y) (names xs x) none in (
      unnamed_behind xs x y different.0 (turned (eqb y x) refl parts.0),
      different_behind xs x different.1 parts.1,
    )
  where
    turned : (b : Bool) → eqb y x ≡ b → eqb x y ≡ false → b ≡ false
    turned true same apart = let there : eqb x y ≡ true = eq-eqb x y (sym (eqb-true y x same)) in absurd cc
    turned false same apart = refl

-- a number that stands twice
twice : (front back : List ℕ) (x : ℕ) → names front x ≡ true → AreDifferent (front ++ x ∷ back) → ⊥
twice [] back x named different = absurd cc
twice (y ∷ front) back x named different = elim (or_cases (eqb x y) (names front x) named) [
  | inl same ↦ (
      let here : x ≡ y = eqb-true x y same in
      let again : names (front ++ x ∷ back) x ≡ true = stands front in
      let never : names (front ++ x ∷ back) x ≡ false =
      subst (λ (z : ℕ). names (front ++ x ∷ back) z ≡ false) (sym here) different.0 in
      absurd cc)
  | inr later ↦ twice front back x later different.1
]
  where
    stands : (ys : List ℕ) → names (ys ++ x ∷ back) x ≡ true
    stands [] = first (eqb x x) (names back x) (eq-eqb x x refl)
      where
        first : (a b : Bool) → a ≡ true → (a || b) ≡ true
        first true b e = refl
        first false b e = absurd cc
    stands (z ∷ ys) = behind (eqb x z) (names (ys ++ x ∷ back) x) (stands ys)
      where
        behind : (a b : Bool) → b ≡ true → (a || b) ≡ true
        behind true b e = refl
        behind false b e = e

-- a number above all others is not among them
above_all : (xs : List ℕ) (most x : ℕ) → AreUpTo most xs → most < x → names xs x ≡ false
above_all xs most x under above = by_test (names xs x) refl
  where
    by_test : (b : Bool) → names xs x ≡ b → b ≡ false
    by_test true is = let low = under x is in absurd (omega (arith, low, above))
    by_test false is = refl

up_to : (xs : List ℕ) (x most : ℕ) → AreUpTo most xs → AreUpTo (max most x) (xs ++ x ∷ [])
up_to xs x most under r named = at (named_more xs x r named)
  where
    at : (names xs r ≡ true) ⊎ (r ≡ x) → r ≤ max most x
    at (inl before) = let low = under r before in omega (arith, low)
    at (inr is) = omega (arith, is)

module _ (xs : List ℕ) where
  pub up_to_none : AreUpTo 0 (take 0 xs)
  up_to_none r e = absurd cc

  different_more : (i d : ℕ) → i < length xs → names (take i xs) (get_or xs i d) ≡ false
      → AreDifferent (take i xs) → AreDifferent (take (i + 1) xs)
  different_more i d within none different =
      subst AreDifferent (sym (take_more xs i d within)) (different_behind (take i xs) (get_or xs i d) different none)

  pub different_further : (i d most : ℕ) → i < length xs → AreUpTo most (take i xs)
      → AreDifferent (take i xs) → (most < get_or xs i d) ⊎ (names (take i xs) (get_or xs i d) ≡ false)
      → AreDifferent (take (i + 1) xs)
  different_further i d most within under different (inl above) =
      different_more i d within (above_all (take i xs) most (get_or xs i d) under above) different
  different_further i d most within under different (inr none) = different_more i d within none different

  pub up_to_further : (i d most : ℕ) → i < length xs → AreUpTo most (take i xs)
      → AreUpTo (max most (get_or xs i d)) (take (i + 1) xs)
  up_to_further i d most within under =
      subst (AreUpTo (max most (get_or xs i d))) (sym (take_more xs i d within))
      (up_to (take i xs) (get_or xs i d) most under)

  pub not_different : (i d : ℕ) → i < length xs → names (take i xs) (get_or xs i d) ≡ true
      → (false ≡ true) ↔ AreDifferent xs
  not_different i d within named = (
    λ e. absurd cc,
    λ different.
        absurd (twice (take i xs) (drop (i + 1) xs) (get_or xs i d) named
        (subst AreDifferent
        (sym (take-append-drop i xs)
        ∙ ap (λ (ys : List ℕ). take i xs ++ ys) (drop_more xs i d within)) different)),
  )

  pub all_different : (i : ℕ) → length xs ≤ i → AreDifferent (take i xs) → (true ≡ true) ↔ AreDifferent xs
  all_different i past different =
      (λ e. subst AreDifferent (take_all i xs past) different, λ all. refl)

pub ruleset different_laws = (up_to_none, different_further, up_to_further, not_different, all_different)
