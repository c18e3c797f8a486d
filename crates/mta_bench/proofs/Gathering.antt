-- Lists that are emptied from their end.
use Rattle.std.proofs.Common.{◌≡◌, ℕ, suc, ◌+◌, ◌<◌, List, [], ◌∷◌, ◌++◌, length, slice_index_or, All, ap, ◌∙◌}
use Rattle.std.proofs.Common.{arith, length-append, append-nil, take, drop, take_all, drop_of_length-le}
use Rattle.std.proofs.lemmas.List.Elements.{All-cons}

module _ {X : Type 0} (P : X → Type 0) where
  tail_of : (x : X) (xs : List X) → All P (x ∷ xs) → All P xs
  tail_of x xs h k d l = h (suc k) d (omega arith)

  pub all_last : (xs : List X) (x : X) → All P (xs ++ x ∷ []) → P x
  all_last [] x h = h 0 x (omega arith)
  all_last (y ∷ ys) x h = all_last ys x (tail_of y (ys ++ x ∷ []) h)

  pub all_front : (xs : List X) (x : X) → All P (xs ++ x ∷ []) → All P xs
  all_front [] x h = λ k d l. absurd (omega arith)
  all_front (y ∷ ys) x h =
      All-cons P y ys (h 0 y (let e : length (ys ++ x ∷ []) ≡ length ys + 1 = length-append ys (x ∷ []) in omega arith))
      (all_front ys x (tail_of y (ys ++ x ∷ []) h))

  pub all_along : (xs ys : List X) → length xs ≡ length ys
      → ((i : ℕ) (d : X) → i < length xs → P (slice_index_or ys i d)) → All P ys
  all_along xs ys len each i d l = each i d (omega arith)

-- a vector after its whole slice was written
pub written : {X : Type 0} (xs ys : List X) (n : ℕ) → n ≡ length ys → length xs ≡ length ys
    → take n (xs ++ drop (length xs) ys) ≡ xs
written xs ys n e e' =
    ap (λ l. take n (xs ++ l)) (drop_of_length-le ys (omega arith))
    ∙ (ap (take n) (append-nil xs) ∙ take_all n xs (omega arith))
