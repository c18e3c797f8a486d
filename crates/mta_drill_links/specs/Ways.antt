-- The units on the way to one end of a link.
use Rattle.std.specs.Prelude.{◌≡◌, ℕ, Bool, List, [], ◌∷◌, ◌++◌, All, Option, None, Some}
use Rattle.mta_units.specs.Canon.{IsUnit, unit_octets}
use Rattle.mta_units.specs.Feed.{Feed}
use Rattle.mta_units.specs.declared.next.Next.{Next}
use Rattle.mta_units.specs.declared.next.Next.TheVariants as next
use Rattle.mta_units.specs.declared.unit.Unit.{Unit as AnyUnit}

-- what was put and not read yet, and whether the link is broken
pub record WayValue : Type 0 where
  pub feed : Feed
  pub is_broken : Bool

-- the octets of units, one behind the other
abbrev pub octets_of : List AnyUnit → List ℕ
octets_of [] = []
octets_of (u ∷ us) = unit_octets u ++ octets_of us

-- What was put and not read yet are these units.
pub record AreOnWay (us : List AnyUnit) (f : Feed) : Type 0 where
  pub octets : f.left ≡ octets_of us
  pub each : All IsUnit us
  pub good : f.bad ≡ None

-- the unit that was found, if it is one
abbrev pub unit_in : Next → Option AnyUnit
unit_in (next.Unit u) = Some u
unit_in next.More = None
unit_in (next.Bad at k) = None
