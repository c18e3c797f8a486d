-- The test of a route decides it.
use Rattle.std.proofs.Common.{◌≡◌, ℕ, ◌≤◌, Bool, true, false, List, [], ◌∷◌, length, Option, Some, refl, sym, ◌∙◌, ◌↔◌}
use Rattle.std.proofs.Common.{arith}
use Rattle.std.specs.Prelude.{map}
use Rattle.std.proofs.lemmas.Bool.{and_parts, and_from}
use Rattle.mta_names.specs.declared.attributes.Attributes.{Attributes}
use Rattle.mta_names.specs.Normal.{normal_text, is_same_text, is_same_value}
use Rattle.mta_names.proofs.NormalLaws.{option_decides, text_decides}
use Rattle.mta_name_text.specs.Routes.{present, route_attributes, HasParts, HasRoute, has_parts}

parts_decide : (ts : List (List ℕ)) (os : List (Option (List ℕ))) → (has_parts ts os ≡ true) ↔ HasParts ts os
parts_decide [] os = (λ e. tt, λ h. refl)
parts_decide (t ∷ ts) [] = (λ e. absurd cc, λ h. absurd h)
parts_decide (t ∷ ts) (o ∷ os) =
    let d = option_decides is_same_text normal_text text_decides o (Some t) in
    let r = parts_decide ts os in (
      λ e. let a = and_parts (is_same_value o (Some t)) (has_parts ts os) e in (d.0 a.0, r.0 a.1),
      λ h. and_from _ _ (d.1 h.0) (r.1 h.1),
    )

pub route_decides : (n : Attributes) (parts : List (List ℕ)) (r : Bool) → r ≡ has_parts parts (route_attributes n)
    → (r ≡ true) ↔ HasRoute n parts
route_decides n parts r is = let d = parts_decide parts (route_attributes n) in (λ e. d.0 (sym is ∙ e), λ h. is ∙ d.1 h)

-- a part with no unit left
pub none_left : (ts us : List (List ℕ)) → 1 ≤ length ts → length us ≡ 0 → false ≡ has_parts ts (map present us)
none_left [] us h e = absurd (omega arith)
none_left (t ∷ ts) [] h e = refl
none_left (t ∷ ts) (u ∷ us) h e = absurd (omega arith)
