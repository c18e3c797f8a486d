-- Values of a list, written one behind the other.
use Rattle.std.proofs.Common.{◌≡◌, ℕ, ◌+◌, ◌<◌, ◌≤◌, List, ◌∷◌, ◌++◌, get_or, length, drop, sym, ap, subst, ◌∙◌}
use Rattle.std.proofs.Common.{append_assoc, append-nil}
use Rattle.std.specs.Prelude.{flat_map}
use Rattle.std.specs.List.{AllByRecursion}
use Rattle.std.proofs.lemmas.List.{drop_all, drop_more}

-- the next one stands before those behind it
front : {A : Type 0} (xs : List A) (i : ℕ) (x : A) → i < length xs → x ≡ get_or xs i x → drop i xs ≡ x ∷ drop (i + 1) xs
front {A} xs i x l is = drop_more xs i x l ∙ ap (λ (y : A). y ∷ drop (i + 1) xs) (sym is)

-- where those that are left fit, the next one does, and those behind it
pub next_fits : {A : Type 0} (P : A → Type 0) (xs : List A) (i : ℕ) (x : A) → i < length xs → x ≡ get_or xs i x
    → AllByRecursion P (drop i xs) → P x × AllByRecursion P (drop (i + 1) xs)
next_fits {A} P xs i x l is fits = subst (λ (ys : List A). AllByRecursion P ys) (front xs i x l is) fits

-- one more is written
pub next_put : {A : Type 0} (f : A → List ℕ) (xs : List A) (i : ℕ) (x : A) (out all z : List ℕ) → i < length xs
    → x ≡ get_or xs i x → out ++ flat_map f (drop i xs) ≡ all → z ≡ out ++ f x → z ++ flat_map f (drop (i + 1) xs) ≡ all
next_put {A} f xs i x out all z l is before new =
    ap (λ (t : List ℕ). t ++ flat_map f (drop (i + 1) xs)) new
    ∙ append_assoc out (f x) (flat_map f (drop (i + 1) xs))
    ∙ ap (λ (ys : List A). out ++ flat_map f ys) (sym (front xs i x l is))
    ∙ before

-- all are written
pub all_put : {A : Type 0} (f : A → List ℕ) (xs : List A) (i : ℕ) (out all : List ℕ) → length xs ≤ i
    → out ++ flat_map f (drop i xs) ≡ all → out ≡ all
all_put {A} f xs i out all l before =
    sym (append-nil out) ∙ ap (λ (ys : List A). out ++ flat_map f ys) (sym (drop_all i xs l)) ∙ before
