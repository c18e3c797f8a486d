-- The one reading of a stream: the longest list of whole units at its front, and what follows it.
use Rattle.std.specs.Prelude.{◌≡◌, ℕ, ◌⊎◌, List, [], ◌∷◌, ◌++◌, length}
use Rattle.mta_ber.specs.Octet.{IsOctets}
use Rattle.mta_units.specs.declared.front.BadUnit.{BadUnit}
use Rattle.mta_units.specs.declared.unit.Unit.{Unit as AnyUnit}
use Rattle.mta_units.specs.declared.next.Next.{Next}
use Rattle.mta_units.specs.declared.next.Next.TheVariants as next
use Rattle.mta_units.specs.Canon.{unit_octets, IsUnit}
use Rattle.mta_units.specs.Look.{Reads, look}
use Rattle.mta_units.specs.Spelling.{SpellsUnits, HasFault, IsCutOff}
use Rattle.mta_units.specs.Feed.{Feed}

-- the units that were answered, with what was not taken, are all that was fed
pub record HasRead (us : List AnyUnit) (stream : List ℕ) (f : Feed) : Type 0 where
  pub front : List ℕ
  pub spelled : SpellsUnits us front
  pub stream_is : stream ≡ front ++ f.left
  pub at_is : f.at ≡ length front

-- the units that were answered, after an answer
abbrev pub and_next : List AnyUnit → Next → List AnyUnit
and_next us (next.Unit u) = us ++ u ∷ []
and_next us next.More = us
and_next us (next.Bad at k) = us

-- what an answer other than a unit says of what is left
abbrev pub Says : Next → Feed → Type 0
Says (next.Unit u) f = Unit {0}
Says next.More f = IsCutOff f.left
Says (next.Bad at k) f = (at ≡ f.at) × HasFault k f.left

-- a stream from here on begins with no whole unit
abbrev pub BeginsNone : List ℕ → Type 0
BeginsNone rest = IsCutOff rest ⊎ ((k : BadUnit) × HasFault k rest)

-- a reading of a stream to its last whole unit
pub record IsReading (stream : List ℕ) (us : List AnyUnit) (rest : List ℕ) : Type 0 where
  pub front : List ℕ
  pub spelled : SpellsUnits us front
  pub stream_is : stream ≡ front ++ rest
  pub none : BeginsNone rest

-- each stream has one reading
abbrev pub StreamsHaveOneReading : Type 0
StreamsHaveOneReading = (stream : List ℕ) (us us' : List AnyUnit) (rest rest' : List ℕ) → IsOctets stream
    → IsReading stream us rest → IsReading stream us' rest' → (us ≡ us') × (rest ≡ rest')

-- a unit that is written is read again, whatever follows it
abbrev pub UnitsAreReadAgain : Type 0
UnitsAreReadAgain = (u : AnyUnit) (more : List ℕ) → IsUnit u → look (unit_octets u ++ more) ≡ Reads u more
