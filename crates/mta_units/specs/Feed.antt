-- A stream that is fed in pieces, as far as it was taken.
use Rattle.std.specs.Prelude.{◌≡◌, ℕ, ◌+◌, ◌-◌, ◌^◌, ◌<◌, ◌≤◌, List, [], ◌++◌, length, drop, Option, Some, None}
use Rattle.mta_units.specs.declared.front.BadUnit.{BadUnit}
use Rattle.mta_units.specs.declared.next.Next.{Next}
use Rattle.mta_units.specs.declared.next.Next.TheVariants as next
use Rattle.mta_ber.specs.Octet.{IsOctets}
use Rattle.mta_units.specs.Look.{Look, Nothing, Fails, Reads, look, KeepsFault}

-- how many octets were taken, what was fed and not yet taken, the fault that was found, and for how many octets more
-- memory is there
pub record Feed : Type 0 where
  pub at : ℕ
  pub left : List ℕ
  pub bad : Option BadUnit
  pub spare : ℕ

abbrev pub no_feed : Feed
no_feed = record { at = 0; left = []; bad = None; spare = 0 }

-- the memory for so many octets is there
abbrev pub with_spare : Feed → ℕ → Feed
with_spare f count = record f { spare = count }

-- a piece more
abbrev pub fed : Feed → List ℕ → Feed
fed f piece = record f { left = f.left ++ piece; spare = 0 }

-- what is seen, where a fault that was found stays
abbrev pub seen_by : Option BadUnit → Look → Look
seen_by None l = l
seen_by (Some k) l = Fails k

abbrev pub seen : Feed → Look
seen f = seen_by f.bad (look f.left)

-- what is answered where this is seen, and what is left
abbrev pub answered : ℕ → Look → Next
answered at Nothing = next.More
answered at (Fails k) = next.Bad at k
answered at (Reads u rest) = next.Unit u

abbrev pub after : Feed → Look → Feed
after f Nothing = f
after f (Fails k) = record f { bad = Some k }
after f (Reads u rest) =
    record { at = f.at + (length f.left - length rest); left = rest; bad = None; spare = f.spare }

-- what was answered, and what is left
pub record Goes (old : Feed) (n : Next) (new : Feed) : Type 0 where
  pub answer : n ≡ answered old.at (seen old)
  pub left : new ≡ after old (seen old)

-- what a value of the stream's type holds: octets, of which so many were taken, in memory for so many more
pub record Holds (taken : ℕ) (octets : List ℕ) (at : ℕ) (bad : Option BadUnit)
    (spare capacity : ℕ) : Type 0 where
  pub within : taken ≤ length octets
  pub room : at + length (drop taken octets) < 2 ^ 64
  pub bytes : IsOctets (drop taken octets)
  pub kept : KeepsFault bad (drop taken octets)
  pub memory : length octets + spare ≤ capacity
