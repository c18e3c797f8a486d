-- Where neighbours may change places, components spell the same in any order.
use Rattle.std.proofs.Common.{◌≡◌, ℕ, ◌+◌, List, [], ◌∷◌, ◌++◌, refl, sym, subst}
use Rattle.std.specs.List.{concat}
use Rattle.mta_ber.specs.Components.{Makes, IsComponent, AreComponents, SpellsComponents}
use Rattle.mta_set_laws.specs.Orders.{IsOrderOf, ChangePlaces}

module _ {S : Type 0} (makes : Makes S) (change : ChangePlaces makes) (depth : ℕ) where
  -- a component that comes first may stand behind others
  later : (s t u : S) (x : List ℕ) (front back : List (List ℕ))
      → IsComponent makes depth s x t → AreComponents makes depth t (front ++ back) u
      → AreComponents makes depth s (front ++ x ∷ back) u
  later s t u x [] back h k = (t, h, k)
  later s t u x (f ∷ fs) back h k =
      let w = change depth s t k.0 x f h k.1 in
      (w.0, w.1, later w.0 k.0 u x fs back w.2 k.2)

  pub in_any_order : (s u : S) (es ys : List (List ℕ)) → IsOrderOf es ys → AreComponents makes depth s es u
      → AreComponents makes depth s ys u
  in_any_order s u [] ys o h = subst (λ zs. AreComponents makes depth s zs u) (sym o) h
  in_any_order s u (x ∷ xs) ys o h =
      subst (λ zs. AreComponents makes depth s zs u) (sym o.2)
      (later s h.0 u x o.0 o.1 h.1 (in_any_order h.0 u xs (o.0 ++ o.1) o.3 h.2))

pub spelled_in_any_order : {S : Type 0} (makes : Makes S) → ChangePlaces makes
    → (depth : ℕ) (s t : S) (content : List ℕ)
    → (h : SpellsComponents makes depth s content t) → (ys : List (List ℕ)) → IsOrderOf h.components ys
    → SpellsComponents makes depth s (concat ys) t
spelled_in_any_order makes change depth s t content h ys o =
    record { components = ys; joined = refl; are = in_any_order makes change (depth + 1) s t h.components ys o h.are }
