-- BIT STRING contents (X.690, 8.6).
use Rattle.std.specs.Prelude.{ℕ, ◌+◌, ◌-◌, ◌*◌, ◌/◌, ◌%◌, ◌^◌, Bool, true, List, [], ◌∷◌, length}
use Rattle.std.specs.Prelude.{Result, Ok, nat_lt, ◌==◌, if◌then◌else◌, ◌&&◌, ◌||◌, not, max}
use Rattle.mta_ber.specs.declared.fault.Fault.{Fault}
use Rattle.mta_ber.specs.declared.fault.Kind.TheVariants.{BadInt}
use Rattle.mta_ber.specs.Head.{◌>>=◌, fault, base}
use Rattle.mta_ber.specs.Element.{Part}
use Rattle.mta_ber.specs.Strings.{Piece, gather, is_empty}

-- bits: how many, and the number whose binary digits they are, the first one the most significant
pub record BitString : Type 0 where
  pub count : ℕ
  pub word : ℕ

abbrev pub no_bits : BitString
no_bits = record { count = 0; word = 0 }

-- bits, and more bits behind them
abbrev pub with_bits : BitString → BitString → BitString
with_bits a b = record { count = a.count + b.count; word = a.word * 2 ^ b.count + b.word }

-- the bit at a place; one that is absent is 0
abbrev pub bit : BitString → ℕ → Bool
bit b place = nat_lt place b.count && (b.word / 2 ^ (b.count - 1 - place) % 2 == 1)

-- with zeros behind them, up to a least count
abbrev pub padded : ℕ → BitString → BitString
padded least b = record { count = max least b.count; word = b.word * 2 ^ (least - b.count) }

-- more than 64 bits, however many
abbrev pub too_many : BitString
too_many = record { count = 65; word = 0 }

abbrev pub at_most_64 : BitString → BitString
at_most_64 b = if nat_lt 64 b.count then too_many else b

-- the first octet of a piece says how many bits of its last one are unused: at most 7, none where there is no other
-- octet, and none where a piece may follow
abbrev pub good_unused : Bool → ℕ → List ℕ → Bool
good_unused last unused octets = nat_lt unused 8 && ((unused == 0) || (last && not (is_empty octets)))

-- the bits of octets without the unused ones
abbrev pub bits_of : ℕ → List ℕ → BitString
bits_of unused octets = record { count = 8 * length octets - unused; word = base 256 octets / 2 ^ unused }

abbrev pub bits_behind : BitString → Bool → ℕ → List ℕ → Result BitString Fault
bits_behind before last at [] = fault at BadInt
bits_behind before last at (unused ∷ octets) = if good_unused last unused octets then
    Ok (at_most_64 (with_bits before (bits_of unused octets))) else fault at BadInt

abbrev pub bits_piece : Piece BitString
bits_piece last before p = bits_behind before last p.at p.content

-- a bit string of at most 64 bits
unfoldable pub bits_in : Part → Result BitString Fault
bits_in p = gather bits_piece (17 - p.depth) 3 3 true no_bits p >>= λ b. if nat_lt 64 b.count then fault p.at BadInt
    else Ok b
