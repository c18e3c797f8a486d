-- Lists of activities of some lanes.
use Rattle.std.proofs.Common.{◌≡◌, ℕ, ◌+◌, ◌≤◌, ◌<◌, Bool, true, false, List, [], ◌∷◌, ◌++◌, length, take, get_or, refl}
use Rattle.std.proofs.Common.{sym, ap, ◌∙◌, append_assoc}
use Rattle.std.specs.Prelude.{cond}
use Rattle.std.specs.List.{filter, flat_map}
use Rattle.std.proofs.lemmas.List.{take_all, take_more}

-- one more
pub gathered_more : {X A : Type 0} (f : X → List A) (p : X → Bool) (xs : List X) (x : X)
    → flat_map f (filter p (xs ++ x ∷ [])) ≡ flat_map f (filter p xs) ++ flat_map f (filter p (x ∷ []))
gathered_more f p [] x = refl
gathered_more {X} {A} f p (y ∷ xs) x = by (p y) (gathered_more f p xs x)
  where
    by : (b : Bool)
        → flat_map f (filter p (xs ++ x ∷ [])) ≡ flat_map f (filter p xs) ++ flat_map f (filter p (x ∷ []))
        → flat_map f (cond b (y ∷ filter p (xs ++ x ∷ [])) (filter p (xs ++ x ∷ [])))
        ≡ flat_map f (cond b (y ∷ filter p xs) (filter p xs)) ++ flat_map f (filter p (x ∷ []))
    by true more = ap (λ (t : List A). f y ++ t) more
        ∙ sym (append_assoc (f y) (flat_map f (filter p xs)) (flat_map f (filter p (x ∷ []))))
    by false more = more

module _ {X A : Type 0} (f : X → List A) (p : X → Bool) (xs : List X) (i : ℕ) where
  -- so a loop goes on
  pub gathered_on : (x : X) (row new : List A) → row ≡ flat_map f (filter p (take i xs))
      → new ≡ row ++ flat_map f (filter p (x ∷ [])) → x ≡ get_or xs i x → i < length xs
      → new ≡ flat_map f (filter p (take (i + 1) xs))
  gathered_on x row new so_far one at inside =
      one ∙ ap (λ (r : List A). r ++ flat_map f (filter p (x ∷ []))) so_far
      ∙ sym (gathered_more f p (take i xs) x)
      ∙ ap (λ (t : List X). flat_map f (filter p t))
      (ap (λ (y : X). take i xs ++ y ∷ []) at ∙ sym (take_more xs i x inside))

  -- and ends
  pub gathered_all : (row : List A) → row ≡ flat_map f (filter p (take i xs)) → length xs ≤ i
      → row ≡ flat_map f (filter p xs)
  gathered_all row so_far all = so_far ∙ ap (λ (t : List X). flat_map f (filter p t)) (take_all i xs all)
