-- The longest route of a name, by the number of its first parts (X.402, 18.3: country, administration domain, private
-- domain, organization and units).
use Rattle.std.specs.Prelude.{◌≡◌, ℕ, zero, suc, ◌≤◌, ◌<◌, Bool, List, [], ◌∷◌, length}
use Rattle.std.specs.Prelude.{map, drop, Option, Some, None, slice_get, ◌==◌, ◌&&◌}
use Rattle.std.specs.List.{position}
use Rattle.mta_names.specs.declared.attributes.Attributes.{Attributes}
use Rattle.mta_names.specs.Normal.{normal_text}
use Rattle.mta_name_digest.specs.Digests.{texts_digest}
use Rattle.mta_name_text.specs.Routes.{HasParts, route_attributes}
use Rattle.mta_tables.specs.declared.entry.Route.{Route}
use Rattle.mta_tables.specs.Hops.{matches}
use Rattle.mta_tables.specs.Indexes.{pattern_digest}

-- the part at a place from 0
abbrev pub part_at : List (Option (List ℕ)) → ℕ → Option (List ℕ)
part_at [] place = None
part_at (o ∷ os) zero = o
part_at (o ∷ os) (suc place) = part_at os place

-- a route that matches and has so many parts
abbrev pub is_route_of : ℕ → Attributes → Route → Bool
is_route_of count n r = matches n r && (length r.pattern == count)

abbrev pub or_shorter : Option ℕ → Option ℕ → Option ℕ
or_shorter None shorter = shorter
or_shorter (Some place) shorter = Some place

-- the place of the longest route of at most so many parts
abbrev pub best_upto : List Route → Attributes → ℕ → Option ℕ
best_upto routes n zero = None
best_upto routes n (suc count) = or_shorter (position (is_route_of (suc count) n) routes) (best_upto routes n count)

abbrev pub route_at : List Route → Option ℕ → Option Route
route_at routes None = None
route_at routes (Some place) = slice_get routes place

-- the digest is that of all patterns that match, as far as the parts before this place go
abbrev pub AreFronts : Attributes → ℕ → ℕ → Type 0
AreFronts n place d = (ps : List (List ℕ)) → HasParts ps (route_attributes n) → place ≤ length ps
    → pattern_digest ps ≡ texts_digest d (map normal_text (drop place ps))

-- routes that match and have so many parts have this digest
abbrev pub HaveFront : ℕ → Attributes → ℕ → Type 0
HaveFront count n d = (ps : List (List ℕ)) → HasParts ps (route_attributes n) → length ps ≡ count
    → pattern_digest ps ≡ d
