-- Recipients of a list, looked at one after the other.
use Rattle.std.proofs.Common.{◌≡◌, ℕ, ◌+◌, ◌<◌, ◌≤◌, Bool, true, false, List, [], ◌∷◌, length, get_or, drop, refl, sym}
use Rattle.std.proofs.Common.{subst, eqb, inl, inr}
use Rattle.std.specs.Prelude.{◌↔◌}
use Rattle.std.proofs.lemmas.Bool.{eqb-true, eq-eqb, or_cases, or_left, or_right}
use Rattle.std.proofs.lemmas.List.{get_or_default}
use Rattle.mta_machine.specs.Items.{names}
use Rattle.mta_snapshots.proofs.Each.{each_still, each_never, each_done}

-- it holds of each recipient of the list
abbrev pub EachNamed : (ℕ → Type 0) → List ℕ → Type 0
EachNamed Q xs = (r : ℕ) → names xs r ≡ true → Q r

pub named_split : (Q : ℕ → Type 0) (x : ℕ) (xs : List ℕ) → EachNamed Q (x ∷ xs) ↔ (Q x × EachNamed Q xs)
named_split Q x xs = (
  λ each. (
    each x (or_left (eqb x x) (names xs x) (eq-eqb x x refl)),
    λ r named. each r (or_right (eqb r x) (names xs r) named),
  ),
  λ parts r named. elim (or_cases (eqb r x) (names xs r) named) [
    | inl same ↦ subst Q (sym (eqb-true r x same)) parts.0
    | inr later ↦ parts.1 r later
  ],
)

pub named_none : (Q : ℕ → Type 0) → EachNamed Q []
named_none Q r named = absurd cc

module _ (Q : ℕ → Type 0) (xs : List ℕ) where
  pub named_still : (k : ℕ) (b : Bool) → k < length xs → (b ≡ true) ↔ Q (get_or xs k 0) → b ≡ true
      → EachNamed Q xs ↔ EachNamed Q (drop k xs) → EachNamed Q xs ↔ EachNamed Q (drop (k + 1) xs)
  named_still k b within test does same =
      each_still (EachNamed Q) (λ y ys. Q y) (named_split Q) (named_none Q) xs k (get_or xs k 0) b within
      (get_or_default xs k 0 (get_or xs k 0) within) test does same

  pub named_never : (k : ℕ) (b : Bool) → k < length xs → (b ≡ true) ↔ Q (get_or xs k 0) → b ≡ false
      → EachNamed Q xs ↔ EachNamed Q (drop k xs) → (false ≡ true) ↔ EachNamed Q xs
  named_never k b within test isnt same =
      each_never (EachNamed Q) (λ y ys. Q y) (named_split Q) (named_none Q) xs k (get_or xs k 0) b within
      (get_or_default xs k 0 (get_or xs k 0) within) test isnt same

  pub named_done : (k : ℕ) → length xs ≤ k → EachNamed Q xs ↔ EachNamed Q (drop k xs)
      → (true ≡ true) ↔ EachNamed Q xs
  named_done k past same = each_done (EachNamed Q) (λ y ys. Q y) (named_split Q) (named_none Q) xs k past same
