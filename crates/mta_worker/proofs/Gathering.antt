-- Lists that are emptied from their end.
use Rattle.std.proofs.Common.{◌≡◌, ℕ, suc, ◌+◌, List, [], ◌∷◌, ◌++◌, map, reverse, length, All, ap, ◌∙◌, arith}
use Rattle.std.proofs.Common.{length-append, append-nil, take, drop, take_all, drop_of_length-le}
use mathlib.Core.List.{IsPrefix}
use Rattle.std.proofs.lemmas.List.{reverse-append}
use Rattle.std.proofs.lemmas.List.Elements.{All-cons}
use Rattle.mta_shared.proofs.Fronts.{prefix_trans}
use Rattle.mta_records.specs.declared.step.Step.{Step}
use Rattle.mta_worker.specs.declared.jobs.Job.{Job}
use Rattle.mta_worker.specs.Jobs.{SawFront}

module _ {X : Type 0} (P : X → Type 0) where
  tail_of : (x : X) (xs : List X) → All P (x ∷ xs) → All P xs
  tail_of x xs h k d l = h (suc k) d (omega arith)

  pub all_last : (xs : List X) (x : X) → All P (xs ++ x ∷ []) → P x
  all_last [] x h = h 0 x (omega arith)
  all_last (y ∷ ys) x h = all_last ys x (tail_of y (ys ++ x ∷ []) h)

  pub all_front : (xs : List X) (x : X) → All P (xs ++ x ∷ []) → All P xs
  all_front [] x h = λ k d l. absurd (omega arith)
  all_front (y ∷ ys) x h =
      All-cons P y ys (h 0 y (let e : length (ys ++ x ∷ []) ≡ length ys + 1 = length-append ys (x ∷ []) in omega arith))
      (all_front ys x (tail_of y (ys ++ x ∷ []) h))

  pub all_none : All P []
  all_none = λ k d l. absurd (omega arith)

pub reverse_map-cons : {X Y : Type 0} (f : X → Y) (x : X) (xs : List X)
    → reverse (map f (x ∷ xs)) ≡ reverse (map f xs) ++ f x ∷ []
reverse_map-cons f x xs = reverse-append (f x ∷ []) (map f xs)

-- a list and one member behind it
pub map_end : {X Y : Type 0} (f : X → Y) (xs : List X) (x : X) → map f (xs ++ x ∷ []) ≡ map f xs ++ f x ∷ []
map_end f [] x = λ i. f x ∷ []
map_end f (y ∷ ys) x = ap (λ l. f y ∷ l) (map_end f ys x)

-- the passes joined so far have seen a beginning of the longer history, and so has the next one
pub saw_more : {S : Type 0} (xs ys : List Step) (j : Job S) (js : List (Job S)) → All (SawFront xs) js
    → IsPrefix xs ys → IsPrefix j.pass.seen ys → All (SawFront ys) (j ∷ js)
saw_more xs ys j js all pre mine =
    All-cons (SawFront ys) j js mine (λ k d l. prefix_trans _ _ _ (all k d l) pre)

pub empty_front : {X : Type 0} (xs ys zs : List X) → length xs ≡ 0 → xs ++ ys ≡ zs → ys ≡ zs
empty_front [] ys zs h e = e
empty_front (x ∷ xs) ys zs h e = absurd (omega arith)

-- a vector after its whole slice was written
pub written : {X : Type 0} (xs ys : List X) (n : ℕ) → n ≡ length ys → length xs ≡ length ys
    → take n (xs ++ drop (length xs) ys) ≡ xs
written xs ys n e e' =
    ap (λ l. take n (xs ++ l)) (drop_of_length-le ys (omega arith))
    ∙ (ap (take n) (append-nil xs) ∙ take_all n xs (omega arith))
