-- What holds of each of a list, looked at one after the other.
use Rattle.std.proofs.Common.{◌≡◌, ℕ, suc, ◌+◌, ◌<◌, ◌≤◌, Bool, true, false, List, [], ◌∷◌, length, get_or, drop, refl}
use Rattle.std.proofs.Common.{sym}
use Rattle.std.proofs.Common.{ap, subst, ◌∙◌, drop-cons, add-one}
use Rattle.std.specs.Prelude.{◌↔◌}
use Rattle.std.specs.List.{AllByRecursion}
use Rattle.std.proofs.lemmas.List.{drop_all}
use Rattle.mta_histories.specs.Lanes.{Lane, EachLane}

-- the one at a place, and those behind it
pub next : {A : Type 0} (xs : List A) (k : ℕ) (x : A) → k < length xs → x ≡ get_or xs k x
    → drop k xs ≡ x ∷ drop (k + 1) xs
next {A} xs k x within is =
    drop-cons xs k x within
    ∙ (ap (λ (y : A). y ∷ drop (suc k) xs) (sym is) ∙ ap (λ (n : ℕ). x ∷ drop n xs) (sym (add-one k)))

pub not_so : {P : Type 0} (b : Bool) → (b ≡ true) ↔ P → b ≡ false → P → ⊥
not_so b same isnt p = let does : b ≡ true = same.1 p in absurd cc

pub yes_no : {P Q : Type 0} → (P → Q) → (Q → P) → P ↔ Q
yes_no f g = (f, g)

-- a fact on a list that falls into one on its first and one on the others
module _ {A : Type 0} (E : List A → Type 0) (H : A → List A → Type 0)
    (split : (x : A) (xs : List A) → E (x ∷ xs) ↔ (H x xs × E xs)) (none : E [])
  where
    pub each_still : (xs : List A) (k : ℕ) (x : A) (b : Bool) → k < length xs → x ≡ get_or xs k x
        → (b ≡ true) ↔ H x (drop (k + 1) xs) → b ≡ true → E xs ↔ E (drop k xs) → E xs ↔ E (drop (k + 1) xs)
    each_still xs k x b within is test does same =
        let at = next xs k x within is in
        let parts = split x (drop (k + 1) xs) in (
          λ e. (parts.0 (subst E at (same.0 e))).1,
          λ e. same.1 (subst E (sym at) (parts.1 (test.0 does, e))),
        )

    pub each_never : (xs : List A) (k : ℕ) (x : A) (b : Bool) → k < length xs → x ≡ get_or xs k x
        → (b ≡ true) ↔ H x (drop (k + 1) xs) → b ≡ false → E xs ↔ E (drop k xs) → (false ≡ true) ↔ E xs
    each_never xs k x b within is test isnt same =
        let at = next xs k x within is in (
          λ e. absurd cc,
          λ e. absurd (not_so b test isnt ((split x (drop (k + 1) xs)).0 (subst E at (same.0 e))).0),
        )

    pub each_done : (xs : List A) (k : ℕ) → length xs ≤ k → E xs ↔ E (drop k xs) → (true ≡ true) ↔ E xs
    each_done xs k past same = (λ e. same.1 (subst E (sym (drop_all k xs past)) none), λ e. refl)

-- each of a list
module _ {A : Type 0} (P : A → Type 0) (xs : List A) where
  pub all_still : (k : ℕ) (x : A) (b : Bool) → k < length xs → x ≡ get_or xs k x → (b ≡ true) ↔ P x → b ≡ true
      → AllByRecursion P xs ↔ AllByRecursion P (drop k xs)
      → AllByRecursion P xs ↔ AllByRecursion P (drop (k + 1) xs)
  all_still k x b within is test does same =
      each_still (AllByRecursion P) (λ y ys. P y) (λ y ys. (λ e. e, λ e. e)) tt xs k x b within is test does same

  pub all_never : (k : ℕ) (x : A) (b : Bool) → k < length xs → x ≡ get_or xs k x → (b ≡ true) ↔ P x → b ≡ false
      → AllByRecursion P xs ↔ AllByRecursion P (drop k xs) → (false ≡ true) ↔ AllByRecursion P xs
  all_never k x b within is test isnt same =
      each_never (AllByRecursion P) (λ y ys. P y) (λ y ys. (λ e. e, λ e. e)) tt xs k x b within is test isnt same

  pub all_done : (k : ℕ) → length xs ≤ k → AllByRecursion P xs ↔ AllByRecursion P (drop k xs)
      → (true ≡ true) ↔ AllByRecursion P xs
  all_done k past same =
      each_done (AllByRecursion P) (λ y ys. P y) (λ y ys. (λ e. e, λ e. e)) tt xs k past same

-- each lane
module _ (P : Lane → Type 0) (xs : List Lane) where
  pub lanes_still : (k : ℕ) (x : Lane) (b : Bool) → k < length xs → x ≡ get_or xs k x → (b ≡ true) ↔ P x → b ≡ true
      → EachLane P xs ↔ EachLane P (drop k xs) → EachLane P xs ↔ EachLane P (drop (k + 1) xs)
  lanes_still k x b within is test does same =
      each_still (EachLane P) (λ y ys. P y) (λ y ys. (λ e. e, λ e. e)) tt xs k x b within is test does same

  pub lanes_never : (k : ℕ) (x : Lane) (b : Bool) → k < length xs → x ≡ get_or xs k x → (b ≡ true) ↔ P x → b ≡ false
      → EachLane P xs ↔ EachLane P (drop k xs) → (false ≡ true) ↔ EachLane P xs
  lanes_never k x b within is test isnt same =
      each_never (EachLane P) (λ y ys. P y) (λ y ys. (λ e. e, λ e. e)) tt xs k x b within is test isnt same

  pub lanes_done : (k : ℕ) → length xs ≤ k → EachLane P xs ↔ EachLane P (drop k xs) → (true ≡ true) ↔ EachLane P xs
  lanes_done k past same = each_done (EachLane P) (λ y ys. P y) (λ y ys. (λ e. e, λ e. e)) tt xs k past same

-- a test that is the fact that it is true
pub truth : (b p : Bool) → b ≡ p → (b ≡ true) ↔ (p ≡ true)
truth b p same = (λ e. sym same ∙ e, λ e. same ∙ e)

-- a test of the one is a test of the other
pub as_well : {P Q : Type 0} (b : Bool) → (b ≡ true) ↔ P → P ↔ Q → (b ≡ true) ↔ Q
as_well b test same = (λ e. same.0 (test.0 e), λ q. test.1 (same.1 q))
