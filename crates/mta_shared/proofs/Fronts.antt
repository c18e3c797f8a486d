-- Beginnings of lists.
use Rattle.std.proofs.Common.{◌≡◌, ℕ, zero, suc, ◌+◌, ◌≤◌, List, [], ◌∷◌, ◌++◌, length, Some, refl, sym, ap, ◌∙◌, subst}
use Rattle.std.proofs.Common.{arith}
use Rattle.std.specs.Prelude.{slice_get}
use mathlib.Core.List.{IsPrefix}
use Rattle.std.proofs.lemmas.List.{append_assoc, append-nil, length-append}

module _ {E : Type 0} where
  pub prefix_self : (xs : List E) → IsPrefix xs xs
  prefix_self xs = ([], append-nil xs)

  pub prefix_trans : (xs ys zs : List E) → IsPrefix xs ys → IsPrefix ys zs → IsPrefix xs zs
  prefix_trans xs ys zs p q = (p.0 ++ q.0, sym (append_assoc xs p.0 q.0) ∙ (ap (λ l. l ++ q.0) p.1 ∙ q.1))

  pub prefix_length : (xs ys : List E) → IsPrefix xs ys → length xs ≤ length ys
  prefix_length xs ys p = let h : length (xs ++ p.0) ≡ length xs + length p.0 = length-append xs p.0 in
      let e : length (xs ++ p.0) ≡ length ys = ap length p.1 in omega arith

  -- what follows an empty list of no greater length is nothing
  none_left : (ys : List E) → length ys ≤ 0 → [] ≡ ys
  none_left [] le = refl
  none_left (y ∷ ys) le = absurd (omega arith)

  pub prefix_whole : (xs ys : List E) → IsPrefix xs ys → length ys ≤ length xs → xs ≡ ys
  prefix_whole xs ys p le =
      let h : length (xs ++ p.0) ≡ length xs + length p.0 = length-append xs p.0 in
      let e : length (xs ++ p.0) ≡ length ys = ap length p.1 in
      sym (append-nil xs) ∙ (ap (λ l. xs ++ l) (none_left p.0 (omega arith)) ∙ p.1)

  -- two beginnings of one list, by recursion on both
  shorter : (xs ys a b : List E) → xs ++ a ≡ ys ++ b → length xs ≤ length ys → IsPrefix xs ys
  shorter [] ys a b e le = (ys, refl)
  shorter (x ∷ xs) [] a b e le = absurd (omega arith)
  shorter (x ∷ xs) (y ∷ ys) a b e le = let r : IsPrefix xs ys = shorter xs ys a b (cc e) (omega arith) in
      (r.0, cc (e, r.1))

  -- of two beginnings of one list the shorter begins the longer
  pub prefix_shorter : (xs ys log : List E) → IsPrefix xs log → IsPrefix ys log → length xs ≤ length ys → IsPrefix xs ys
  prefix_shorter xs ys log p q le = shorter xs ys p.0 q.0 (p.1 ∙ sym q.1) le

  get_front : (xs a : List E) (k : ℕ) (x : E) → slice_get xs k ≡ Some x → slice_get (xs ++ a) k ≡ Some x
  get_front [] a k x e = cc e
  get_front (y ∷ xs) a zero x e = e
  get_front (y ∷ xs) a (suc k) x e = get_front xs a k x e

  -- what stands in a beginning stands in the list, at the same place
  pub prefix_get : (xs ys : List E) (k : ℕ) (x : E) → IsPrefix xs ys → slice_get xs k ≡ Some x → slice_get ys k ≡ Some x
  prefix_get xs ys k x p e = subst (λ l. slice_get l k ≡ Some x) p.1 (get_front xs p.0 k x e)
