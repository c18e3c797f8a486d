-- Components of a SET that stand in any order (X.690, 8.11).
use Rattle.std.specs.Prelude.{◌≡◌, ℕ, List, [], ◌∷◌, ◌++◌}
use Rattle.mta_ber.specs.Components.{Makes, IsComponent}

-- the second list has all of the first, in some order: its first item somewhere, and the others around that in some
-- order
abbrev pub IsOrderOf : List (List ℕ) → List (List ℕ) → Type 0
IsOrderOf [] ys = ys ≡ []
IsOrderOf (x ∷ xs) ys =
    (front : List (List ℕ)) × (back : List (List ℕ)) × (ys ≡ front ++ x ∷ back)
    × IsOrderOf xs (front ++ back)

-- two components that are neighbours may change places
abbrev pub ChangePlaces : {S : Type 0} → Makes S → Type 0
ChangePlaces {S} makes =
    (depth : ℕ) (s t u : S) (a b : List ℕ) → IsComponent makes depth s a t → IsComponent makes depth t b u
    → (between : S) × IsComponent makes depth s b between × IsComponent makes depth between a u
