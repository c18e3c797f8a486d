-- Which names are on a route: each part of a pattern is there with equal normal text.
use Rattle.std.specs.Prelude.{◌≡◌, ℕ, Bool, true, false, List, [], ◌∷◌, map, Option, Some, ◌&&◌}
use Rattle.std.specs.Option.{option_map}
use Rattle.mta_names.specs.declared.attributes.Attributes.{Attributes}
use Rattle.mta_names.specs.Normal.{normal_text, is_same_value}
use Rattle.mta_name_text.specs.Forms.{label_text}

abbrev pub present : List ℕ → Option (List ℕ)
present t = Some t

-- the attributes that routes go by, in their order: country, administration domain, private domain, organization, and
-- the units
abbrev pub route_attributes : Attributes → List (Option (List ℕ))
route_attributes n = option_map label_text n.country ∷ option_map label_text n.admd ∷
    option_map label_text n.prmd ∷
    n.organization ∷ map present n.units

abbrev pub normal_of : Option (List ℕ) → Option (List ℕ)
normal_of o = option_map normal_text o

-- place by place
abbrev pub HasParts : List (List ℕ) → List (Option (List ℕ)) → Type 0
HasParts [] os = Unit {0}
HasParts (t ∷ ts) [] = ⊥
HasParts (t ∷ ts) (o ∷ os) = (normal_of o ≡ normal_of (Some t)) × HasParts ts os

abbrev pub HasRoute : Attributes → List (List ℕ) → Type 0
HasRoute n parts = HasParts parts (route_attributes n)

-- the test of it
abbrev pub has_parts : List (List ℕ) → List (Option (List ℕ)) → Bool
has_parts [] os = true
has_parts (t ∷ ts) [] = false
has_parts (t ∷ ts) (o ∷ os) = is_same_value o (Some t) && has_parts ts os
