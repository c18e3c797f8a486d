-- Indicators (X.411, PerMessageIndicators and PerRecipientIndicators): a list of 8 to 64 bits, of which those that are
-- not written are 0.
use Rattle.std.specs.Prelude.{◌≡◌, ℕ, ◌<◌, ◌≤◌, ◌^◌, Bool, List, Result, Ok}
use Rattle.mta_ber.specs.declared.fault.Fault.{Fault}
use Rattle.mta_ber.specs.declared.tag.Tag.{Tag}
use Rattle.mta_ber.specs.Bits.{BitString, bits_in, padded}
use Rattle.mta_ber.specs.Contents.{canon_bits}
use Rattle.mta_ber.specs.Element.{Part}
use Rattle.mta_ber.specs.Head.{◌>>=◌}
use Rattle.mta_ber.specs.Segmented.{SpellsBits}

pub record IsIndicators (b : BitString) : Type 0 where
  pub at_least : 8 ≤ b.count
  pub at_most : b.count ≤ 64
  pub within : b.word < 2 ^ b.count

abbrev pub indicators_in : Part → Result BitString Fault
indicators_in p = bits_in p >>= λ b. Ok (padded 8 b)

-- a bit string of at most 64 bits, with zeros behind them up to 8
pub record SpellsIndicators (depth : ℕ) (constructed : Bool) (content : List ℕ) (b : BitString) : Type 0 where
  pub bits : BitString
  pub spelled : SpellsBits depth constructed content bits
  pub value : b ≡ padded 8 bits

abbrev pub canonical_indicators : Tag → BitString → List ℕ
canonical_indicators tag b = canon_bits tag b
