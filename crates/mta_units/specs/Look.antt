-- The unit at the front of a stream.
use Rattle.std.specs.Prelude.{◌≡◌, ℕ, ◌≤◌, List, length, drop, Option, Some, None, Result, Ok, Err}
use Rattle.mta_ber.specs.declared.fault.Fault.{Fault}
use Rattle.mta_units.specs.declared.front.BadUnit.{BadUnit}
use Rattle.mta_units.specs.declared.front.BadUnit.TheVariants as bad
use Rattle.mta_units.specs.declared.look.Look.{Look as Found}
use Rattle.mta_units.specs.declared.look.Look.TheVariants as found
use Rattle.mta_units.specs.declared.unit.Unit.{Unit as AnyUnit}
use Rattle.mta_units.specs.Front.{Front, Cut, Faulty, Whole, front}
use Rattle.mta_units.specs.Body.{body_in}

-- no whole unit and no fault, a fault, or a unit and what follows it
pub data Look : Type 0 where
  Nothing : Look
  Fails : BadUnit → Look
  Reads : AnyUnit → List ℕ → Look

abbrev pub with_body : Result AnyUnit Fault → List ℕ → Look
with_body (Ok u) rest = Reads u rest
with_body (Err f) rest = Fails bad.Body

abbrev pub look_behind : Front → Look
look_behind Cut = Nothing
look_behind (Faulty k) = Fails k
look_behind (Whole kind body rest) = with_body (body_in kind body) rest

unfoldable pub look : List ℕ → Look
look octets = look_behind (front octets)

-- what a function answered, with the size of a unit
abbrev pub IsLook : List ℕ → Found → Type 0
IsLook octets found.Cut = look octets ≡ Nothing
IsLook octets (found.Faulty k) = look octets ≡ Fails k
IsLook octets (found.Read u size) = (look octets ≡ Reads u (drop size octets)) × (size ≤ length octets)

-- a fault that is kept is the one that stands there
abbrev pub KeepsFault : Option BadUnit → List ℕ → Type 0
KeepsFault None octets = Unit {0}
KeepsFault (Some k) octets = look octets ≡ Fails k
