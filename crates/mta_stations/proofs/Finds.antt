-- What the search of a list finds.
use Rattle.std.proofs.Common.{◌≡◌, Bool, true, false, List, [], ◌∷◌, ◌++◌, Option, Some, None, refl, ap, cond}
use Rattle.std.specs.Prelude.{All, IfSome, IfNone, option_map}
use Rattle.std.specs.List.{find}
use Rattle.std.proofs.lemmas.List.Elements.{All-nil, All-cons, All-head, All-tail}
use Rattle.std.proofs.lemmas.Option.{IfSome_then}

-- the first that passes
pub record Found {X : Type 0} (test : X → Bool) (xs : List X) (x : X) : Type 0 where
  pub before : List X
  pub behind : List X
  pub stands : xs ≡ before ++ x ∷ behind
  pub passes : test x ≡ true
  pub others : All (λ y. test y ≡ false) before

found_at : {X : Type 0} (test : X → Bool) (x : X) (xs : List X) (b : Bool) → test x ≡ b
    → IfSome (find test xs) (Found test xs) → IfSome (cond b (Some x) (find test xs)) (Found test (x ∷ xs))
found_at test x xs true e rest = record {
  before = [];
  behind = xs;
  stands = refl;
  passes = e;
  others = All-nil (λ y. test y ≡ false);
}
found_at {X} test x xs false e rest = IfSome_then (find test xs) rest (λ y f. record {
  before = x ∷ f.before;
  behind = f.behind;
  stands = ap (λ (zs : List X). x ∷ zs) f.stands;
  passes = f.passes;
  others = All-cons (λ y. test y ≡ false) x f.before e f.others;
})

pub find_some : {X : Type 0} (test : X → Bool) (xs : List X) → IfSome (find test xs) (Found test xs)
find_some test [] = tt
find_some test (x ∷ xs) = found_at test x xs (test x) refl (find_some test xs)

none_at : {X : Type 0} (test : X → Bool) (x : X) (xs : List X) (b : Bool) (o : Option X) → test x ≡ b
    → IfNone o (All (λ y. test y ≡ false) xs) → IfNone (cond b (Some x) o) (All (λ y. test y ≡ false) (x ∷ xs))
none_at test x xs true o e rest = tt
none_at test x xs false None e rest = All-cons (λ y. test y ≡ false) x xs e rest
none_at test x xs false (Some y) e rest = tt

pub find_none : {X : Type 0} (test : X → Bool) (xs : List X)
    → IfNone (find test xs) (All (λ y. test y ≡ false) xs)
find_none test [] = All-nil (λ y. test y ≡ false)
find_none test (x ∷ xs) = none_at test x xs (test x) (find test xs) refl (find_none test xs)

pub of_front : {X : Type 0} (P : X → Type 0) (xs ys : List X) → All P (xs ++ ys) → All P xs
of_front P [] ys h = All-nil P
of_front P (x ∷ xs) ys h = All-cons P x xs (All-head P x (xs ++ ys) h) (of_front P xs ys (All-tail P x (xs ++ ys) h))

-- what holds of what was made of a value, where there is one
pub of_mapped : {X Y : Type 0} (f : X → Y) (P : Y → Type 0) (o : Option X) → IfSome (option_map f o) P
    → IfSome o (λ x. P (f x))
of_mapped f P None h = tt
of_mapped f P (Some x) h = h

pub none_mapped : {X Y : Type 0} (f : X → Y) (Q : Type 0) (o : Option X) → IfNone (option_map f o) Q → IfNone o Q
none_mapped f Q None h = h
none_mapped f Q (Some x) h = tt
