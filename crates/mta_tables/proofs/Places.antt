-- Places in lists.
use Rattle.std.proofs.Common.{◌≡◌, ℕ, zero, suc, ◌<◌, ◌≤◌, Bool, true, false, cond, ltb, List, [], ◌∷◌, ◌++◌, length}
use Rattle.std.proofs.Common.{get_or, Option, Some, None, refl, sym, ap, subst, ◌∙◌, ◌⊎◌, inl, inr, arith}
use Rattle.std.specs.Prelude.{slice_get, map}
use Rattle.std.specs.List.{position, position_or_len, find, list_all, Any}
use Rattle.std.proofs.lemmas.Bool.{cases_Bool, both_ways, and_parts, and_from, ltb-true, ltb-false}
use Rattle.std.proofs.lemmas.List.Sums.{fails_before_first, passes_at_first}
use Rattle.std.proofs.lemmas.Option.{slice_get_within, slice_get_cases, get_or_from_slice_get}
use Rattle.mta_tables.specs.Whole.{IsAt, AreApart}

abbrev pub some_place : ℕ → Option ℕ
some_place i = Some i

abbrev pub Passes : {X : Type 0} → (X → Bool) → List X → ℕ → Type 0
Passes {X} p xs i = (x : X) × (slice_get xs i ≡ Some x) × (p x ≡ true)

pub place_is : (i j : ℕ) → some_place i ≡ some_place j → i ≡ j
place_is i j e = cc

passes_first : {X : Type 0} (p : X → Bool) (xs : List X) → position_or_len p xs < length xs
    → Passes p xs (position_or_len p xs)
passes_first p xs l =
    elim ((slice_get_cases xs (position_or_len p xs)).1) [
      | inl f ↦ (f.0, f.2, ap p (sym f.3) ∙ passes_at_first p xs f.0 l)
      | inr g ↦ absurd (omega (arith, g.0))
    ]

pub position_passes : {X : Type 0} (p : X → Bool) (xs : List X) (i : ℕ) → position p xs ≡ Some i → Passes p xs i
position_passes p xs i e =
    elim (cases_Bool (ltb (position_or_len p xs) (length xs))) [
      | inl l ↦ (let f : some_place (position_or_len p xs) ≡ some_place i = rw l at e in
          subst (Passes p xs) (place_is _ i f) (passes_first p xs (ltb-true _ _ l)))
      | inr m ↦ (let f : None ≡ some_place i = rw m at e in absurd cc)
    ]

pub position_none : {X : Type 0} (p : X → Bool) (xs : List X) (k : ℕ) → position p xs ≡ None → Passes p xs k → ⊥
position_none p xs k e h =
    elim (cases_Bool (ltb (position_or_len p xs) (length xs))) [
      | inl l ↦ (let f : some_place (position_or_len p xs) ≡ None = rw l at e in absurd cc)
      | inr m ↦ (
          let past = ltb-false (position_or_len p xs) (length xs) m in
          let within = slice_get_within xs k h.0 h.1 in
          let before : k < position_or_len p xs = omega arith in
          both_ways (p h.0) (ap p (sym (get_or_from_slice_get xs k h.0 h.0 h.1)) ∙ fails_before_first p xs k h.0 before)
          h.2)
    ]

pub position_within : {X : Type 0} (p : X → Bool) (xs : List X) (i : ℕ) → position p xs ≡ Some i → i < length xs
position_within p xs i e = (let h = position_passes p xs i e in slice_get_within xs i h.0 h.1)

pub cases_option : {X : Type 0} (o : Option X) → (o ≡ None) ⊎ ((x : X) × (o ≡ Some x))
cases_option None = inl refl
cases_option (Some x) = inr (x, refl)

-- ---- one more

pub at_more : {X : Type 0} (xs : List X) (n : X) (i : ℕ) (x : X) → slice_get (xs ++ n ∷ []) i ≡ Some x
    → (slice_get xs i ≡ Some x) ⊎ ((i ≡ length xs) × (x ≡ n))
at_more [] n zero x e = inr (refl, cc)
at_more [] n (suc i) x e = absurd cc
at_more (y ∷ ys) n zero x e = inl e
at_more (y ∷ ys) n (suc i) x e = elim (at_more ys n i x e) [ inl h ↦ inl h | inr h ↦ inr (ap suc h.0, h.1) ]

pub any_at : {X : Type 0} (P : X → Type 0) (xs : List X) (i : ℕ) (x : X) → slice_get xs i ≡ Some x → P x → Any P xs
any_at P xs i x e h = (i, x, slice_get_within xs i x e, get_or_from_slice_get xs i x x e, h)

pub apart_more : {X : Type 0} (Same : X → X → Type 0) (xs : List X) (n : X) → ((x : X) → Same n x → Same x n)
    → AreApart Same xs → (Any (λ x. Same x n) xs → ⊥) → AreApart Same (xs ++ n ∷ [])
apart_more {X} Same xs n turned h none i j x y p q s = at (at_more xs n i x p.found) (at_more xs n j y q.found)
  where
    at : (slice_get xs i ≡ Some x) ⊎ ((i ≡ length xs) × (x ≡ n)) → (slice_get xs j ≡ Some y)
        ⊎ ((j ≡ length xs) × (y ≡ n)) → i ≡ j
    at (inl e) (inl f) = h i j x y (record { found = e }) (record { found = f }) s
    at (inl e) (inr f) = absurd (none (any_at (λ z. Same z n) xs i x e (subst (λ z. Same x z) f.1 s)))
    at (inr e) (inl f) = absurd (none (any_at (λ z. Same z n) xs j y f (turned y (subst (λ z. Same z y) e.1 s))))
    at (inr e) (inr f) = e.0 ∙ sym f.0

-- ---- mapped

pub at_mapped : {X Y : Type 0} (f : X → Y) (xs : List X) (i : ℕ) (y : Y) → slice_get (map f xs) i ≡ Some y → (x : X)
    × ((slice_get xs i ≡ Some x) × (y ≡ f x))
at_mapped f [] i y e = absurd cc
at_mapped f (x ∷ xs) zero y e = (x, (refl, cc))
at_mapped f (x ∷ xs) (suc i) y e = at_mapped f xs i y e

pub apart_mapped : {X : Type 0} (Same : X → X → Type 0) (f : X → X) (xs : List X)
    → ((x y : X) → Same (f x) (f y) → Same x y) → AreApart Same xs → AreApart Same (map f xs)
apart_mapped Same f xs kept h i j x y p q s =
    let a = at_mapped f xs i x p.found in
    let b = at_mapped f xs j y q.found in
    let t = subst (λ z. Same z (f b.0)) a.1.1 (subst (λ z. Same x z) b.1.1 s) in
    h i j a.0 b.0 (record { found = a.1.0 }) (record { found = b.1.0 }) (kept a.0 b.0 t)
