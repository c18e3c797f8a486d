-- Object identifiers (X.690, 8.19): at least one contents octet, the last with its top bit clear.
use Rattle.std.specs.Prelude.{◌≡◌, ℕ, ◌-◌, ◌≤◌, Bool, false, List, [], ◌∷◌, length}
use Rattle.std.specs.Prelude.{slice_index, Result, Ok, nat_lt, if◌then◌else◌, ◌&&◌}
use Rattle.std.specs.List.{concat}
use Rattle.mta_ber.specs.declared.fault.Fault.{Fault}
use Rattle.mta_ber.specs.declared.fault.Kind.TheVariants.{BadTag, BadText}
use Rattle.mta_ber.specs.Head.{fault}
use Rattle.mta_ber.specs.Element.{Part}
use Rattle.mta_ber.specs.Spelling.{IsGroup}

abbrev pub is_oid : List ℕ → Bool
is_oid octets = nat_lt 0 (length octets) && nat_lt (slice_index octets (length octets - 1)) 128

unfoldable pub oid_in : Part → Result (List ℕ) Fault
oid_in p = if p.tag.constructed then fault p.at BadTag else if is_oid p.content then Ok p.content
    else fault p.at BadText

-- ---- apart from reading

abbrev pub AreSubidentifiers : List (List ℕ) → Type 0
AreSubidentifiers [] = Unit {0}
AreSubidentifiers (s ∷ ss) = IsGroup s × AreSubidentifiers ss

-- one subidentifier or more, one behind the other; of the octets of each the last alone has its top bit clear
pub record IsOid (octets : List ℕ) : Type 0 where
  pub subidentifiers : List (List ℕ)
  pub some : 1 ≤ length subidentifiers
  pub each : AreSubidentifiers subidentifiers
  pub joined : octets ≡ concat subidentifiers

-- a primitive content that is an object identifier, which is kept as its octets
pub record SpellsOid (constructed : Bool) (content octets : List ℕ) : Type 0 where
  pub primitive : constructed ≡ false
  pub is_oid_of : IsOid content
  pub kept : octets ≡ content
