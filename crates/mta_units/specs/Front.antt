-- What stands at the front of a stream of units: a unit is four octets of its body's length, the most significant
-- first, its kind octet and its body.
use Rattle.std.specs.Prelude.{◌≡◌, ℕ, Bool, false, not, List, [], ◌∷◌, length, take}
use Rattle.std.specs.Prelude.{drop, Option, Some, None, nat_lt, if◌then◌else◌}
use Rattle.std.specs.Int.{w32, from_be_bytes}
use Rattle.mta_units.specs.declared.front.BadUnit.{BadUnit}
use Rattle.mta_units.specs.declared.front.BadUnit.TheVariants as bad
use Rattle.mta_units.specs.declared.front.Front.{Front as Found}
use Rattle.mta_units.specs.declared.front.Front.TheVariants as found
use Rattle.mta_units.specs.declared.kind.UnitKind.{UnitKind}
use Rattle.mta_units.specs.Kind.{kind_at, is_fixed}

-- the most octets of a body
abbrev pub longest_body : ℕ
longest_body = 2097157

-- too few octets to tell, a fault, or a whole body of a kind and what follows it
pub data Front : Type 0 where
  Cut : Front
  Faulty : BadUnit → Front
  Whole : UnitKind → (body rest : List ℕ) → Front

-- behind the kind octet
abbrev pub listed : ℕ → Option UnitKind → List ℕ → Front
listed size None octets = Faulty bad.Kind
listed size (Some kind) octets = if nat_lt (length octets) size then Cut else Whole kind (take size octets)
    (drop size octets)

-- behind the length
abbrev pub kinded : ℕ → List ℕ → Front
kinded size [] = Cut
kinded size (octet ∷ octets) = listed size (kind_at octet) octets

abbrev pub sized : ℕ → List ℕ → Front
sized size octets = if nat_lt longest_body size then Faulty bad.Length else kinded size octets

abbrev pub front : List ℕ → Front
front [] = Cut
front (a ∷ []) = Cut
front (a ∷ b ∷ []) = Cut
front (a ∷ b ∷ c ∷ []) = Cut
front (a ∷ b ∷ c ∷ d ∷ octets) = sized (from_be_bytes w32 (a ∷ b ∷ c ∷ d ∷ [])) octets

-- what a function answered, with the body lent
abbrev pub IsFront : Found → Front → Type 0
IsFront found.Cut seen = seen ≡ Cut
IsFront (found.Faulty k) seen = seen ≡ Faulty k
IsFront (found.Whole kind body rest) seen = seen ≡ Whole kind body.now rest.now

-- what stands there may take memory to be read
abbrev pub may_take_memory : Front → Bool
may_take_memory Cut = false
may_take_memory (Faulty k) = false
may_take_memory (Whole kind body rest) = not (is_fixed kind)
